-- Packing and unpacking a group undo each other.
use Rattle.std.specs.Prelude.{◌≡◌, ℕ, zero, suc, ◌+◌, ◌-◌, ◌*◌, ◌/◌, ◌%◌, ◌^◌, ◌<◌, ◌≤◌, Bool, true, cond, List, [], ◌∷◌, ◌++◌, map, reverse, length, drop, replicate, ℤ, pos, Some, None, nat_le, slice_index, slice_index_or, slice_set, unsigned_abs, refl}
use Rattle.std.proofs.Common.{sym, ap, subst, ◌∙◌, mod-eq_of_lt, mul-zero, mul-le-mul_left, arith}
use Rattle.std.proofs.Math.Nat.{add-mul-div_left, add-mul-mod_self_left, div-eq_of_lt}
use Rattle.std.specs.Simd.Lanes.{number_l, digits_l, Each1}
use Rattle.std.specs.List.{AllByRecursion}
use Rattle.std.proofs.lemmas.Nat.{pow-add}
use Rattle.std.proofs.ByRecursion.{All-append}
use Rattle.std.proofs.lemmas.List.{reverse-reverse, at_drop_more, at_drop_all, length-reverse, length-map}
use Rattle.std.proofs.lemmas.Int.{ints}
use Rattle.codes.specs.declared.ends.Ends.{Ends}
use Rattle.codes.specs.declared.shape.Shape.{Shape}
use Rattle.codes.specs.declared.side.Side.{Side}
use Rattle.codes.specs.declared.side.Side.TheVariants.{Weights, Activations}
use Rattle.codes.specs.Codes.{Within}
use Rattle.codes.specs.Shapes.{ends_on, words_on}
use Rattle.codes.proofs.Extremes.{all_replicate}
use Rattle.codes.proofs.WithinEnds.{ends_are}
use Rattle.plans.specs.Kinds.{bit_ends}
use Rattle.kernels.specs.Groups.{Packs, Unpacks, filled}
use Rattle.kernels.proofs.Groupings.{length_filled}
use Rattle.kernels.proofs.Naturals.{abs_pos, naturals, most_within}
use Rattle.kernels.proofs.TestedWords.{some_parts, one_passes, set_one}
use Rattle.lanes.specs.Lanes.{lane_for, word_from}
use Rattle.lanes.specs.Words.{is_packed_word, is_packing, ordered, codes_in, packed_lanes, unpacked_lanes, rep, mask_of}
use Rattle.lanes.specs.Rows.{SizeFits, Laid, ShapeFits, size_on}
use Rattle.lanes.specs.Product.{high_n}
use Rattle.lanes.specs.Masks.{pow_lanes, top_below, mask_fits_depth}
use Rattle.lanes.specs.Digits.{each_reverse, high_reverse, word_number, word_each, length_digits}

-- ---- the shape of lanes

-- codes from 0 of these sizes, and one word a group
abbrev pub lane_shape : (depth weight-size activation-size : ℕ) → Shape
lane_shape depth weight-size activation-size = record {
  weight_ends = bit_ends weight-size;
  activation_ends = bit_ends activation-size;
  group = depth;
  weight_words = 1;
  activation_words = 1;
}

abbrev shape_with : (weight-ends activation-ends : Ends) → (group weight_words activation_words : ℕ) → Shape
shape_with weight-ends activation-ends group weight_words activation_words = record {
  weight_ends = weight-ends;
  activation_ends = activation-ends;
  group = group;
  weight_words = weight_words;
  activation_words = activation_words;
}

pub shape_is : (s : Shape) (d x y : ℕ) → ShapeFits s d x y → s ≡ lane_shape d x y
shape_is s d x y f =
    ap (λ (e : Ends). shape_with e s.activation_ends s.group s.weight_words s.activation_words) (ends_are s.weight_ends (pos 0) (pos (2 ^ x - 1)) f.0.0 f.0.1)
    ∙ ap (λ (e : Ends). shape_with (bit_ends x) e s.group s.weight_words s.activation_words) (ends_are s.activation_ends (pos 0) (pos (2 ^ y - 1)) f.1.0 f.1.1)
    ∙ ap (λ (n : ℕ). shape_with (bit_ends x) (bit_ends y) n s.weight_words s.activation_words) f.2
    ∙ ap (λ (n : ℕ). shape_with (bit_ends x) (bit_ends y) d n s.activation_words) f.3
    ∙ ap (λ (n : ℕ). shape_with (bit_ends x) (bit_ends y) d 1 n) f.4

pub side_fits : (w d x y : ℕ) → Laid w d x y → (side : Side) → SizeFits w d (size_on x y side)
side_fits w d x y l Weights = l.weights
side_fits w d x y l Activations = l.activations

-- ---- numbers and their lanes

lane_low : (b x n : ℕ) → x < b → (x + b * n) % b ≡ x
lane_low b x n h = add-mul-mod_self_left x b n ∙ mod-eq_of_lt h

lane_rest : (b x n : ℕ) → x < b → (x + b * n) / b ≡ n
lane_rest b x n h =
    let p : 0 < b = omega arith in
    add-mul-div_left x n p ∙ rw (div-eq_of_lt h) (omega arith)

digits_number : (b h : ℕ) (xs : List ℕ) → h < b → Each1 (λ x. x ≤ h) xs → digits_l b (length xs) (number_l b xs) ≡ xs
digits_number b h [] hb hs = refl
digits_number b h (x ∷ xs) hb (hx, hs) =
    let lt : x < b = omega arith in
    rw (lane_low b x (number_l b xs) lt, lane_rest b x (number_l b xs) lt) (ap (λ (r : List ℕ). x ∷ r) (digits_number b h xs hb hs))

number_word : (b h : ℕ) (xs : List ℕ) → h < b → Each1 (λ x. x ≤ h) xs → is_packed_word b (length xs) h (number_l b xs) ≡ true
number_word b h [] hb hs = refl
number_word b h (x ∷ xs) hb (hx, hs) =
    let lt : x < b = omega arith in
    let l : nat_le x h ≡ true = grind arith in
    rw (lane_low b x (number_l b xs) lt, lane_rest b x (number_l b xs) lt, l) (number_word b h xs hb hs)

number_le : (b h : ℕ) (xs : List ℕ) → Each1 (λ x. x ≤ h) xs → number_l b xs ≤ h * rep b (length xs)
number_le b h [] hs = omega arith
number_le b h (x ∷ xs) (hx, hs) =
    let k : b * number_l b xs ≤ b * (h * rep b (length xs)) = mul-le-mul_left b (number_le b h xs hs) in
    omega arith

-- ---- the order of the lanes

pub order_order : (side : Side) (xs : List ℕ) → ordered side (ordered side xs) ≡ xs
order_order Weights xs = reverse-reverse xs
order_order Activations xs = refl

pub length_order : (side : Side) (xs : List ℕ) → length (ordered side xs) ≡ length xs
length_order Weights xs = length-reverse xs
length_order Activations xs = refl

each_order : (P : ℕ → Type 0) (side : Side) (xs : List ℕ) → Each1 P xs → Each1 P (ordered side xs)
each_order P Weights xs h = each_reverse P xs h
each_order P Activations xs h = h

-- ---- the word of codes by the formula is the number that its lanes spell

next_lane : (w i : ℕ) → 2 ^ (w * (i + 1)) ≡ 2 ^ (w * i) * 2 ^ w
next_lane w i =
    let e : w * (i + 1) ≡ w * i + w = omega arith in
    ap (λ (n : ℕ). 2 ^ n) e ∙ pow-add 2 (w * i) w

word_activations : (w d i : ℕ) (cs : List ℤ) → word_from w d Activations i cs ≡ 2 ^ (w * i) * number_l (2 ^ w) (map unsigned_abs cs)
word_activations w d i [] = omega arith
word_activations w d i (c ∷ cs) =
    let k : 2 ^ (w * (i + 1)) * number_l (2 ^ w) (map unsigned_abs cs) ≡ 2 ^ (w * i) * 2 ^ w * number_l (2 ^ w) (map unsigned_abs cs) =
    ap (λ (z : ℕ). z * number_l (2 ^ w) (map unsigned_abs cs)) (next_lane w i) in
    omega (arith, word_activations w d (i + 1) cs)

word_weights : (w d i : ℕ) (cs : List ℤ) → i + length cs ≡ d → word_from w d Weights i cs ≡ high_n (2 ^ w) (map unsigned_abs cs)
word_weights w d i [] e = refl
word_weights w d i (c ∷ cs) e =
    let e' : i + 1 + length cs ≡ d = omega arith in
    let l : d - 1 - i ≡ length (map unsigned_abs cs) = omega (arith, length-map cs unsigned_abs) in
    let k : 2 ^ (w * (d - 1 - i)) ≡ (2 ^ w) ^ length (map unsigned_abs cs) = ap (λ (z : ℕ). 2 ^ (w * z)) l ∙ pow_lanes w (length (map unsigned_abs cs)) in
    let m : unsigned_abs c * 2 ^ (w * (d - 1 - i)) ≡ unsigned_abs c * (2 ^ w) ^ length (map unsigned_abs cs) = ap (λ (z : ℕ). unsigned_abs c * z) k in
    omega (arith, word_weights w d (i + 1) cs e')

pub word_is : (w d : ℕ) (side : Side) (cs : List ℤ) → length cs ≡ d → word_from w d side 0 cs ≡ number_l (2 ^ w) (ordered side (map unsigned_abs cs))
word_is w d Weights cs e =
    let xs : List ℕ = map unsigned_abs cs in
    let f : 0 + length cs ≡ d = omega arith in
    word_weights w d 0 cs f ∙ ap (high_n (2 ^ w)) (sym (reverse-reverse xs)) ∙ high_reverse (2 ^ w) (reverse xs)
word_is w d Activations cs e =
    let k : 2 ^ (w * 0) ≡ 1 = ap (λ (n : ℕ). 2 ^ n) (mul-zero w) in
    word_activations w d 0 cs ∙ ap (λ (z : ℕ). z * number_l (2 ^ w) (map unsigned_abs cs)) k ∙ omega arith

-- ---- the two laws, of one side with codes of z bits

packs_side : (w d z : ℕ) (side : Side) (cs : List ℤ) → SizeFits w d z → length cs ≡ d → AllByRecursion (Within (bit_ends z)) cs
    → cond (is_packed_word (2 ^ w) d (2 ^ z - 1) (word_from w d side 0 cs)) (Some (codes_in (2 ^ w) d side (word_from w d side 0 cs))) None ≡ Some cs
packs_side w d z side cs fits len within =
    let b : ℕ = 2 ^ w in
    let h : ℕ = 2 ^ z - 1 in
    let hb : h < b = top_below w z fits.1 in
    let e = naturals z cs within in
    let xs : List ℕ = ordered side (map unsigned_abs cs) in
    let es : Each1 (λ x. x ≤ h) xs = each_order (λ x. x ≤ h) side (map unsigned_abs cs) e.most in
    let n : length xs ≡ d = length_order side (map unsigned_abs cs) ∙ length-map cs unsigned_abs ∙ len in
    let word : word_from w d side 0 cs ≡ number_l b xs = word_is w d side cs len in
    let ok : is_packed_word b d h (number_l b xs) ≡ true = ap (λ (m : ℕ). is_packed_word b m h (number_l b xs)) (sym n) ∙ number_word b h xs hb es in
    let ds : digits_l b d (number_l b xs) ≡ xs = ap (λ (m : ℕ). digits_l b m (number_l b xs)) (sym n) ∙ digits_number b h xs hb es in
    let back : codes_in b d side (number_l b xs) ≡ cs =
    ap (λ (r : List ℕ). map pos (ordered side r)) ds ∙ ap (map pos) (order_order side (map unsigned_abs cs)) ∙ e.back in
    ap (λ (v : ℕ). cond (is_packed_word b d h v) (Some (codes_in b d side v)) None) word
    ∙ ap (λ (t : Bool). cond t (Some (codes_in b d side (number_l b xs))) None) ok ∙ ap (λ (r : List ℤ). Some r) back

-- words that are a packing: one word, and its codes
pub record Found (w d high : ℕ) (side : Side) (words : List ℕ) (cs : List ℤ) : Type 0 where
  pub one : words ≡ slice_index words 0 ∷ []
  pub is_word : is_packed_word (2 ^ w) d high (slice_index words 0) ≡ true
  pub codes_are : cs ≡ codes_in (2 ^ w) d side (slice_index words 0)

pub found_side : (w d high : ℕ) (side : Side) (words : List ℕ) (cs : List ℤ)
    → cond (is_packing (2 ^ w) d high words) (Some (codes_in (2 ^ w) d side (slice_index words 0))) None ≡ Some cs → Found w d high side words cs
found_side w d high side words cs e =
    let test = is_packing (2 ^ w) d high in
    let p = some_parts (test words) (codes_in (2 ^ w) d side (slice_index words 0)) cs e in
    let one = one_passes test refl (λ _ _ _. refl) words p.0 in
    record { one = one; is_word = ap test (sym one) ∙ p.0; codes_are = p.1 }

-- a full group of one side, and its word
record Unpacked (w d z : ℕ) (side : Side) (words : List ℕ) (cs : List ℤ) : Type 0 where
  pub full : length cs ≡ d
  pub within : AllByRecursion (Within (bit_ends z)) cs
  pub again : word_from w d side 0 cs ∷ [] ≡ words

unpacks_word : (w d z : ℕ) (side : Side) (v : ℕ) → is_packed_word (2 ^ w) d (2 ^ z - 1) v ≡ true → Unpacked w d z side (v ∷ []) (codes_in (2 ^ w) d side v)
unpacks_word w d z side v ok =
    let b : ℕ = 2 ^ w in
    let ds : List ℕ = digits_l b d v in
    let es = each_order (λ x. x ≤ 2 ^ z - 1) side ds (word_each b d (2 ^ z - 1) v ok) in
    let full : length (codes_in b d side v) ≡ d = length-map (ordered side ds) pos ∙ length_order side ds ∙ length_digits b d v in
    record {
      full = full;
      within = most_within z (ordered side ds) es;
      again = ap (λ (n : ℕ). n ∷ [])
          (word_is w d side (codes_in b d side v) full ∙ ap (λ (r : List ℕ). number_l b (ordered side r)) (abs_pos (ordered side ds))
          ∙ ap (number_l b) (order_order side ds) ∙ word_number b d (2 ^ z - 1) v ok);
    }

unpacks_side : (w d z : ℕ) (side : Side) (words : List ℕ) (cs : List ℤ)
    → cond (is_packing (2 ^ w) d (2 ^ z - 1) words) (Some (codes_in (2 ^ w) d side (slice_index words 0))) None ≡ Some cs → Unpacked w d z side words cs
unpacks_side w d z side words cs e =
    let f = found_side w d (2 ^ z - 1) side words cs e in
    let u = unpacks_word w d z side (slice_index words 0) f.is_word in
    subst (Unpacked w d z side words) (sym f.codes_are) (record { full = u.full; within = u.within; again = u.again ∙ sym f.one })

-- ---- the two laws, of a shape

packs : (w d x y : ℕ) → Laid w d x y → Packs (packed_lanes w (lane_shape d x y)) (unpacked_lanes w (lane_shape d x y)) (lane_shape d x y)
packs w d x y l Weights cs g = (refl, packs_side w d x Weights cs l.weights g.full g.within)
packs w d x y l Activations cs g = (refl, packs_side w d y Activations cs l.activations g.full g.within)

unpacks : (w d x y : ℕ) → Unpacks (packed_lanes w (lane_shape d x y)) (unpacked_lanes w (lane_shape d x y)) (lane_shape d x y)
unpacks w d x y Weights words cs e =
    let u = unpacks_side w d x Weights words cs e in
    (record { full = u.full; within = u.within }, u.again)
unpacks w d x y Activations words cs e =
    let u = unpacks_side w d y Activations words cs e in
    (record { full = u.full; within = u.within }, u.again)

-- of a shape that fits, at a width by another name
pub packs_at : (s : Shape) (w v d x y : ℕ) → w ≡ v → ShapeFits s d x y → Laid w d x y → Packs (packed_lanes v s) (unpacked_lanes v s) s
packs_at s w v d x y e fits l =
    subst (λ (u : ℕ). Packs (packed_lanes u s) (unpacked_lanes u s) s) e
    (subst (λ (t : Shape). Packs (packed_lanes w t) (unpacked_lanes w t) t) (sym (shape_is s d x y fits)) (packs w d x y l))

pub unpacks_at : (s : Shape) (v d x y : ℕ) → ShapeFits s d x y → Unpacks (packed_lanes v s) (unpacked_lanes v s) s
unpacks_at s v d x y fits = subst (λ (t : Shape). Unpacks (packed_lanes v t) (unpacked_lanes v t) t) (sym (shape_is s d x y fits)) (unpacks v d x y)

-- ---- a group that is filled up

pub word_filled : (w d : ℕ) (side : Side) (i n : ℕ) (cs : List ℤ) → word_from w d side i (cs ++ replicate n (pos 0)) ≡ word_from w d side i cs
word_filled w d side i zero [] = refl
word_filled w d side i (suc n) [] = omega (arith, word_filled w d side (i + 1) n [])
word_filled w d side i n (c ∷ cs) = ap (λ (z : ℕ). unsigned_abs c * 2 ^ (w * lane_for side d i) + z) (word_filled w d side (i + 1) n cs)

-- the word of codes that are few enough fits 16 bits
pub word_small : (w d z : ℕ) (side : Side) (cs : List ℤ) → 1 ≤ d → SizeFits w d z → length cs ≤ d → AllByRecursion (Within (bit_ends z)) cs → word_from w d side 0 cs < 65536
word_small w d z side cs hd fits len within =
    let b : ℕ = 2 ^ w in
    let h : ℕ = 2 ^ z - 1 in
    let n : ℕ = d - length cs in
    let all : List ℤ = filled d cs in
    let full : length (filled d cs) ≡ d = length_filled d cs len in
    let zero_in : Within (bit_ends z) (pos 0) = (omega (arith, ints), omega (arith, ints)) in
    let e = naturals z all (All-append (Within (bit_ends z)) cs _ within (all_replicate (Within (bit_ends z)) n (pos 0) zero_in)) in
    let xs : List ℕ = ordered side (map unsigned_abs all) in
    let es : Each1 (λ x. x ≤ h) xs = each_order (λ x. x ≤ h) side (map unsigned_abs all) e.most in
    let m : length xs ≡ d = length_order side (map unsigned_abs all) ∙ length-map all unsigned_abs ∙ full in
    let word : word_from w d side 0 cs ≡ number_l b xs = sym (word_filled w d side 0 n cs) ∙ word_is w d side all full in
    let le : number_l b xs ≤ h * rep b d = subst (λ (k : ℕ). number_l b xs ≤ h * rep b k) m (number_le b h xs es) in
    let small : mask_of w d z < 65536 = mask_fits_depth w z d hd fits.1 fits.2 in
    omega arith

-- ---- the loop that makes a word

-- one turn, at a place with a code that is a number of so many bits
pub record Turn (w d : ℕ) (side : Side) (cs : List ℤ) (place word bits lane : ℕ) : Type 0 where
  pub next : word + (bits * 2 ^ (w * lane)) % 4294967296 + word_from w d side (place + 1) (drop (place + 1) cs) ≡ word_from w d side 0 cs
  pub small : word + (bits * 2 ^ (w * lane)) % 4294967296 < 65536

pub word_turn : (w d z : ℕ) (side : Side) (cs : List ℤ) (place word bits lane : ℕ) → 1 ≤ d → SizeFits w d z → length cs ≤ d → AllByRecursion (Within (bit_ends z)) cs
    → place < length cs → pos bits ≡ slice_index_or cs place (pos 0) → lane ≡ lane_for side d place
    → word + word_from w d side place (drop place cs) ≡ word_from w d side 0 cs → Turn w d side cs place word bits lane
word_turn w d z side cs place word bits lane hd fits len within lt eb el inv =
    let small : word_from w d side 0 cs < 65536 = word_small w d z side cs hd fits len within in
    let more : word_from w d side place (drop place cs)
    ≡ unsigned_abs (slice_index_or cs place (pos 0)) * 2 ^ (w * lane_for side d place) + word_from w d side (place + 1) (drop (place + 1) cs) =
    at_drop_more (word_from w d side place) cs place (pos 0) lt in
    let code : unsigned_abs (slice_index_or cs place (pos 0)) ≡ bits = ap unsigned_abs (sym eb) in
    let here : unsigned_abs (slice_index_or cs place (pos 0)) * 2 ^ (w * lane_for side d place) ≡ bits * 2 ^ (w * lane) =
    ap (λ (n : ℕ). n * 2 ^ (w * lane_for side d place)) code ∙ ap (λ (n : ℕ). bits * 2 ^ (w * n)) (sym el) in
    let low : bits * 2 ^ (w * lane) < 4294967296 = omega arith in
    let whole : (bits * 2 ^ (w * lane)) % 4294967296 ≡ bits * 2 ^ (w * lane) = mod-eq_of_lt low in
    record { next = omega arith; small = omega arith }

pub word_done : (w d : ℕ) (side : Side) (cs : List ℤ) (place word : ℕ) → length cs ≤ place
    → word + word_from w d side place (drop place cs) ≡ word_from w d side 0 cs → word ≡ word_from w d side 0 cs
word_done w d side cs place word le inv =
    let none : word_from w d side place (drop place cs) ≡ 0 = at_drop_all (word_from w d side place) cs place le in
    omega arith

-- ---- packing a group

lane_ends : (d x y : ℕ) (side : Side) → ends_on (lane_shape d x y) side ≡ bit_ends (size_on x y side)
lane_ends d x y Weights = refl
lane_ends d x y Activations = refl

pub within_size : (s : Shape) (d x y : ℕ) → ShapeFits s d x y → (side : Side) (cs : List ℤ) → AllByRecursion (Within (ends_on s side)) cs → AllByRecursion (Within (bit_ends (size_on x y side))) cs
within_size s d x y fits side cs h =
    subst (λ (e : Ends). AllByRecursion (Within e) cs) (ap (λ (t : Shape). ends_on t side) (shape_is s d x y fits) ∙ lane_ends d x y side) h

one_word : (d x y : ℕ) (side : Side) → words_on (lane_shape d x y) side ≡ 1
one_word d x y Weights = refl
one_word d x y Activations = refl

pub packed_group : (s : Shape) (w d x y : ℕ) → ShapeFits s d x y → (side : Side) (cs : List ℤ) (words : List ℕ) (v : ℕ) → length words ≡ words_on s side
    → v ≡ word_from w d side 0 cs → slice_set words 0 v ≡ packed_lanes w s side (filled s.group cs)
packed_group s w d x y fits side cs words v len e =
    let one : length words ≡ 1 = len ∙ ap (λ (t : Shape). words_on t side) (shape_is s d x y fits) ∙ one_word d x y side in
    set_one words v one
    ∙ ap (λ (n : ℕ). n ∷ []) (e ∙ sym (word_filled w d side 0 (d - length cs) cs) ∙ ap (λ (n : ℕ). word_from w n side 0 (filled n cs)) (sym fits.2))
