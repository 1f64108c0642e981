-- Packing and unpacking a group undo each other.
use Rattle.std.specs.Prelude.{◌≡◌, ℕ, ◌-◌, ◌^◌, ◌<◌, ◌≤◌, Bool, true, cond, ◌&&◌, List, [], ◌∷◌, ◌++◌, map, length, replicate, ℤ, pos, Some, None, ◌==◌, nat_lt, slice_index, unsigned_abs, refl}
use Rattle.std.proofs.Common.{sym, ap, subst, ◌∙◌, arith, pow_mono, lt_of_le_ones, Fits}
use Rattle.std.specs.Simd.Lanes.{Each1, all_below}
use lib.LanesLaws.{map-replicate}
use Rattle.std.proofs.Math.Pow.{le_ones}
use Rattle.std.specs.Int.{w16}
use Rattle.std.specs.List.{AllByRecursion}
use Rattle.std.proofs.ByRecursion.{All-weaker}
use Rattle.std.proofs.lemmas.Simd.{Each1-weaker, Each1-from_get_or}
use Rattle.std.proofs.lemmas.List.{map-append, length-map}
use Rattle.std.proofs.lemmas.Int.{ints}
use Rattle.std.proofs.lemmas.Bool.{lt-ltb, ltb-true, eq-eqb, eqb-true, and_parts, and_from}
use Rattle.codes.specs.declared.ends.Ends.{Ends}
use Rattle.codes.specs.declared.shape.Shape.{Shape}
use Rattle.codes.specs.declared.side.Side.{Side}
use Rattle.codes.specs.declared.side.Side.TheVariants.{Weights, Activations}
use Rattle.codes.specs.Codes.{Within}
use Rattle.codes.specs.Shapes.{ends_on, words_on}
use Rattle.codes.proofs.WithinEnds.{ends_are}
use Rattle.plans.specs.Kinds.{bit_ends}
use Rattle.kernels.specs.Groups.{Group, Packs, Unpacks, filled}
use Rattle.kernels.proofs.Naturals.{abs_pos, naturals, most_within}
use Rattle.kernels.proofs.TestedWords.{some_parts}
use Rattle.planes.specs.Planes.{planes_from, packed_planes, codes_in, unpacked_planes}
use Rattle.planes.specs.Rows.{ShapeFits}
use Rattle.planes.specs.Transposed.{planes_back, length_planes, planes_below, planes_filled}

-- ---- words of 16 bits

below_yes : (b : ℕ) (ws : List ℕ) → Each1 (λ w. w < b) ws → all_below b ws ≡ true
below_yes b [] h = refl
below_yes b (w ∷ ws) (h, hs) = and_from (nat_lt w b) (all_below b ws) (lt-ltb w b h) (below_yes b ws hs)

yes_below : (b : ℕ) (ws : List ℕ) → all_below b ws ≡ true → Each1 (λ w. w < b) ws
yes_below b [] h = tt
yes_below b (w ∷ ws) h =
    let both = and_parts (nat_lt w b) (all_below b ws) h in
    (ltb-true w b both.0, yes_below b ws both.1)

-- what is known of a slice of words
pub words_below : (ws : List ℕ) → ((i : ℕ) → Fits w16 (slice_index ws i)) → Each1 (λ w. w < 2 ^ 16) ws
words_below ws h = Each1-from_get_or (λ w. w < 2 ^ 16) ws 0 (λ i _. (h i).fits)

-- words of 16 bits, as many as a group takes, are a packing
pub words_unpack : (s : Shape) (side : Side) (ws : List ℕ) → length ws ≡ words_on s side → ((i : ℕ) → Fits w16 (slice_index ws i)) → unpacked_planes s side ws ≡ Some (codes_in s.group ws)
words_unpack s side ws e h =
    let test : (length ws == words_on s side && all_below 65536 ws) ≡ true = and_from _ _ (eq-eqb (length ws) (words_on s side) e) (below_yes 65536 ws (words_below ws h)) in
    ap (λ (b : Bool). cond b (Some (codes_in s.group ws)) None) test

-- ---- the shape of planes

side_ends : (s : Shape) → ShapeFits s → (side : Side) → ends_on s side ≡ bit_ends (words_on s side)
side_ends s f Weights = ends_are s.weight_ends (pos 0) (pos (2 ^ s.weight_words - 1)) f.0.0 f.0.1
side_ends s f Activations = ends_are s.activation_ends (pos 0) (pos (2 ^ s.activation_words - 1)) f.1.0 f.1.1

-- codes within the ends of a side are codes of as many bits as the side has words
within_bits : (s : Shape) → ShapeFits s → (side : Side) (codes : List ℤ) → AllByRecursion (Within (ends_on s side)) codes → AllByRecursion (Within (bit_ends (words_on s side))) codes
within_bits s f side codes h = subst (λ (e : Ends). AllByRecursion (Within e) codes) (side_ends s f side) h

bits_within : (s : Shape) → ShapeFits s → (side : Side) (codes : List ℤ) → AllByRecursion (Within (bit_ends (words_on s side))) codes → AllByRecursion (Within (ends_on s side)) codes
bits_within s f side codes h = subst (λ (e : Ends). AllByRecursion (Within e) codes) (sym (side_ends s f side)) h

within_more : (size more : ℕ) (codes : List ℤ) → size ≤ more → AllByRecursion (Within (bit_ends size)) codes → AllByRecursion (Within (bit_ends more)) codes
within_more size more codes le h =
    let m : 2 ^ size ≤ 2 ^ more = pow_mono le in
    All-weaker (Within (bit_ends size)) (Within (bit_ends more)) (λ code w. (w.0, omega (arith, ints, w.1))) codes h

-- and so codes of 8 bits
pub within_bytes : (s : Shape) → ShapeFits s → (side : Side) (words : ℕ) → words ≡ words_on s side → words ≤ 8 → (codes : List ℤ) → AllByRecursion (Within (ends_on s side)) codes → AllByRecursion (Within (bit_ends 8)) codes
within_bytes s f side words e few codes h =
    let le : words_on s side ≤ 8 = omega arith in
    within_more (words_on s side) 8 codes le (within_bits s f side codes h)

-- ---- the two laws

pub packs : (s : Shape) → ShapeFits s → Packs (packed_planes s) (unpacked_planes s) s
packs s f side codes g =
    let k : ℕ = words_on s side in
    let ns : List ℕ = map unsigned_abs codes in
    let ws : List ℕ = planes_from 0 k ns in
    let within : AllByRecursion (Within (bit_ends (words_on s side))) codes = within_bits s f side codes g.within in
    let full : length (map unsigned_abs codes) ≡ s.group = length-map codes unsigned_abs ∙ g.full in
    let count : length (planes_from 0 (words_on s side) (map unsigned_abs codes)) ≡ words_on s side = length_planes 0 k ns in
    let small : Each1 (λ w. w < 2 ^ 16) (planes_from 0 (words_on s side) (map unsigned_abs codes)) = subst (λ (n : ℕ). Each1 (λ w. w < 2 ^ n) ws) (full ∙ f.2) (planes_below 0 k ns) in
    let test : (length ws == k && all_below 65536 ws) ≡ true = and_from _ _ (eq-eqb (length ws) k count) (below_yes 65536 ws small) in
    let n = naturals k codes within in
    let below : Each1 (λ c. c < 2 ^ words_on s side) (map unsigned_abs codes) = Each1-weaker (λ c. c ≤ 2 ^ words_on s side - 1) (λ c. c < 2 ^ words_on s side) (λ c. lt_of_le_ones (words_on s side)) (map unsigned_abs codes) n.most in
    let back : codes_in s.group ws ≡ codes = ap (map pos) (planes_back k s.group ns full below) ∙ n.back in
    (count, ap (λ (b : Bool). cond b (Some (codes_in s.group ws)) None) test ∙ ap (λ (cs : List ℤ). Some cs) back)

-- what words that unpack are
pub record Found (s : Shape) (side : Side) (ws : List ℕ) (codes : List ℤ) : Type 0 where
  pub count : length ws ≡ words_on s side
  pub below : Each1 (λ w. w < 2 ^ 16) ws
  pub codes_are : codes ≡ codes_in s.group ws

pub found : (s : Shape) (side : Side) (ws : List ℕ) (codes : List ℤ) → unpacked_planes s side ws ≡ Some codes → Found s side ws codes
found s side ws codes e =
    let is = some_parts (length ws == words_on s side && all_below 65536 ws) (codes_in s.group ws) codes e in
    let both = and_parts (length ws == words_on s side) (all_below 65536 ws) is.0 in
    record { count = eqb-true (length ws) (words_on s side) both.0; below = yes_below 65536 ws both.1; codes_are = is.1 }

-- the codes of words have as many bits as there are words
pub codes_most : (s : Shape) (side : Side) (ws : List ℕ) → length ws ≡ words_on s side → Each1 (λ c. c ≤ 2 ^ words_on s side - 1) (planes_from 0 s.group ws)
codes_most s side ws e =
    subst (λ (n : ℕ). Each1 (λ c. c ≤ 2 ^ n - 1) (planes_from 0 s.group ws)) e
    (Each1-weaker (λ c. c < 2 ^ length ws) (λ c. c ≤ 2 ^ length ws - 1) (λ c. le_ones (length ws)) (planes_from 0 s.group ws) (planes_below 0 s.group ws))

pub unpacks : (s : Shape) → ShapeFits s → Unpacks (packed_planes s) (unpacked_planes s) s
unpacks s f side ws codes e =
    let o = found s side ws codes e in
    let ns : List ℕ = planes_from 0 s.group ws in
    let full : length (codes_in s.group ws) ≡ s.group = length-map ns pos ∙ length_planes 0 s.group ws in
    let within = bits_within s f side (map pos ns) (most_within (words_on s side) ns (codes_most s side ws o.count)) in
    let small : Each1 (λ w. w < 2 ^ s.group) ws = subst (λ (n : ℕ). Each1 (λ w. w < 2 ^ n) ws) (sym f.2) o.below in
    let again : packed_planes s side (codes_in s.group ws) ≡ ws =
    ap (planes_from 0 (words_on s side)) (abs_pos ns) ∙ planes_back s.group (words_on s side) ws o.count small in
    subst (λ (cs : List ℤ). Group s side cs × (packed_planes s side cs ≡ ws)) (sym o.codes_are) (record { full = full; within = within }, again)

-- ---- a group that is filled up

abs_filled : (n : ℕ) (codes : List ℤ) → map unsigned_abs (codes ++ replicate n (pos 0)) ≡ map unsigned_abs codes ++ replicate n 0
abs_filled n codes = map-append unsigned_abs codes (replicate n (pos 0)) ∙ ap (λ (z : List ℕ). map unsigned_abs codes ++ z) (map-replicate unsigned_abs n (pos 0))

pub packed_filled : (s : Shape) (side : Side) (codes : List ℤ) (words : ℕ) → words ≡ words_on s side → planes_from 0 words (map unsigned_abs codes) ≡ packed_planes s side (filled s.group codes)
packed_filled s side codes words e =
    let n : ℕ = s.group - length codes in
    ap (λ (k : ℕ). planes_from 0 k (map unsigned_abs codes)) e ∙ sym (planes_filled 0 (words_on s side) n (map unsigned_abs codes)) ∙ ap (planes_from 0 (words_on s side)) (sym (abs_filled n codes))
