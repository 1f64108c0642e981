-- Packing and unpacking a group undo each other.
use Rattle.std.specs.Prelude.{◌≡◌, ℕ, zero, suc, ◌+◌, ◌-◌, ◌*◌, ◌<◌, Bool, true, cond, List, [], ◌∷◌, length, get_or, ℤ, pos, neg_ℤ, ◌≤ℤ◌, is_some, Some, None, Ok, nat_lt, slice_index, slice_index_or, slice_set, refl}
use Rattle.std.proofs.Common.{sym, ap, subst, ◌∙◌, arith}
use Rattle.std.specs.List.{AllByRecursion}
use Rattle.std.proofs.lemmas.Int.{ints}
use Rattle.std.proofs.ByRecursion.{All-weaker}
use Rattle.std.proofs.lemmas.Bool.{and_parts, and_from, cond-true, ltb-true, lt-ltb}
use Rattle.codes.specs.declared.ends.Ends.{Ends}
use Rattle.codes.specs.declared.shape.Shape.{Shape}
use Rattle.codes.specs.declared.side.Side.{Side}
use Rattle.codes.specs.declared.side.Side.TheVariants.{Weights, Activations}
use Rattle.codes.specs.Codes.{Between, Within, holds}
use Rattle.codes.specs.Shapes.{ends_on, words_on}
use Rattle.codes.proofs.WithinEnds.{holds_within, within_holds}
use Rattle.kernels.specs.Groups.{Group, Packs, Unpacks, filled}
use Rattle.kernels.specs.Answers.{code_answer}
use Rattle.kernels.specs.Allowed.{CodeAllowed}
use Rattle.kernels.proofs.Groupings.{code_filled}
use Rattle.kernels.proofs.TestedWords.{some_tested, some_parts, one_passes, set_one, code_answer_is}
use Rattle.split.specs.Bytes.{InByte, byte_code, code_byte, byte_at, code_at}
use Rattle.split.specs.Words.{word_of, codes_in, is_packed_word, is_packing, packed_split, unpacked_split}
use Rattle.split.specs.Rows.{size_of, EndsFit, ShapeFits}
use Rattle.split.specs.ByteCodes.{byte_back, byte_below, code_back}

-- ---- each side of a shape

pub ends_fit : (s : Shape) → ShapeFits s → (side : Side) → EndsFit (ends_on s side)
ends_fit s fits Weights = fits.0
ends_fit s fits Activations = fits.1

pub one_word : (s : Shape) → ShapeFits s → (side : Side) → words_on s side ≡ 1
one_word s fits Weights = fits.3
one_word s fits Activations = fits.4

-- codes within their ends are at most the size of their side, and bytes hold them
pub within_size : (e : Ends) → EndsFit e → (code : ℤ) → Within e code → Between (neg_ℤ (pos (size_of e))) (pos (size_of e)) code
within_size e fits code w =
    (subst (λ (z : ℤ). z ≤ℤ code) fits.0 w.0, subst (λ (z : ℤ). code ≤ℤ z) fits.1 w.1)

within_byte : (e : Ends) → EndsFit e → (code : ℤ) → Within e code → InByte code
within_byte e fits code w =
    let h = within_size e fits code w in
    let l = fits.2 in
    (omega (arith, ints), omega (arith, ints))

pub all_bytes : (s : Shape) → ShapeFits s → (side : Side) (codes : List ℤ) → AllByRecursion (Within (ends_on s side)) codes → AllByRecursion InByte codes
all_bytes s fits side codes h = All-weaker (Within (ends_on s side)) InByte (within_byte (ends_on s side) (ends_fit s fits side)) codes h

-- ---- the bytes of a word

two_bytes : (low high : ℕ) → low < 256 → high < 256 → (byte_at 0 (low + 256 * high) ≡ low) × (byte_at 1 (low + 256 * high) ≡ high) × (low + 256 * high < 65536)
two_bytes low high l h = (omega arith, omega arith, omega arith)

-- the codes of the word of two codes
record Spelled (first second : ℤ) (word : ℕ) : Type 0 where
  pub below : word < 65536
  pub first_is : code_at 0 word ≡ first
  pub second_is : code_at 1 word ≡ second

spelled : (first second : ℤ) → InByte first → InByte second → Spelled first second (code_byte first + 256 * code_byte second)
spelled first second hf hs =
    let t = two_bytes (code_byte first) (code_byte second) (byte_below first hf) (byte_below second hs) in
    record { below = t.2; first_is = ap byte_code t.0 ∙ byte_back first hf; second_is = ap byte_code t.1 ∙ byte_back second hs }

-- the word of the codes of a word
word_again : (word : ℕ) → word < 65536 → word_of (codes_in word) ≡ word
word_again word h =
    let low : byte_at 0 word < 256 = omega arith in
    let high : byte_at 1 word < 256 = omega arith in
    ap (λ (n : ℕ). n + 256 * code_byte (code_at 1 word)) (code_back (byte_at 0 word) low) ∙ ap (λ (n : ℕ). byte_at 0 word + 256 * n) (code_back (byte_at 1 word) high) ∙ omega arith

-- ---- the two laws

unpacks_two : (e : Ends) (first second : ℤ) (word : ℕ) → Within e first → Within e second → Spelled first second word
    → cond (is_packed_word e word) (Some (codes_in word)) None ≡ Some (first ∷ second ∷ [])
unpacks_two e first second word wf ws p =
    let hf : holds e (code_at 0 word) ≡ true = ap (holds e) p.first_is ∙ within_holds e first wf in
    let hs : holds e (code_at 1 word) ≡ true = ap (holds e) p.second_is ∙ within_holds e second ws in
    let passes : is_packed_word e word ≡ true = and_from (nat_lt word 65536) _ (lt-ltb word 65536 p.below) (and_from _ _ hf hs) in
    cond-true (is_packed_word e word) _ _ passes ∙ ap (λ (z : ℤ). Some (z ∷ code_at 1 word ∷ [])) p.first_is ∙ ap (λ (z : ℤ). Some (first ∷ z ∷ [])) p.second_is

packs_side : (s : Shape) → ShapeFits s → (side : Side) (codes : List ℤ) → length codes ≡ 2 → AllByRecursion (Within (ends_on s side)) codes
    → unpacked_split s side (packed_split s side codes) ≡ Some codes
packs_side s fits side [] full h = absurd (omega arith)
packs_side s fits side (first ∷ []) full h = absurd (omega arith)
packs_side s fits side (first ∷ second ∷ []) full (hf, (hs, _)) =
    let e = ends_on s side in
    let byte = within_byte e (ends_fit s fits side) in
    unpacks_two e first second _ hf hs (spelled first second (byte first hf) (byte second hs))
packs_side s fits side (first ∷ second ∷ third ∷ codes) full h = absurd (omega arith)

pub packs : (s : Shape) → ShapeFits s → Packs (packed_split s) (unpacked_split s) s
packs s fits side codes g = (sym (one_word s fits side), packs_side s fits side codes (g.full ∙ fits.2) g.within)

-- words that are a packing: one word, and its codes
pub record Found (e : Ends) (words : List ℕ) (codes : List ℤ) : Type 0 where
  pub one : words ≡ slice_index words 0 ∷ []
  pub below : get_or words 0 0 < 65536
  pub within : AllByRecursion (Within e) (codes_in (slice_index words 0))
  pub codes_are : codes ≡ codes_in (slice_index words 0)

pub found : (s : Shape) (side : Side) (words : List ℕ) (codes : List ℤ) → unpacked_split s side words ≡ Some codes → Found (ends_on s side) words codes
found s side words codes h =
    let e = ends_on s side in
    let word = get_or words 0 0 in
    let p = some_parts (is_packing e words) (codes_in word) codes h in
    let one = one_passes (is_packing e) refl (λ _ _ _. refl) words p.0 in
    let t = and_parts (nat_lt word 65536) _ (ap (is_packing e) (sym one) ∙ p.0) in
    let u = and_parts (holds e (code_at 0 word)) _ t.1 in
    record { one = one; below = ltb-true word 65536 t.0; within = (holds_within e _ u.0, (holds_within e _ u.1, tt)); codes_are = p.1 }

pub unpacks : (s : Shape) → ShapeFits s → Unpacks (packed_split s) (unpacked_split s) s
unpacks s fits side words codes h =
    let f = found s side words codes h in
    let full : 2 ≡ s.group = sym fits.2 in
    let again : packed_split s side (codes_in (slice_index words 0)) ≡ words = ap (λ (n : ℕ). n ∷ []) (word_again (slice_index words 0) f.below) ∙ sym f.one in
    subst (λ (cs : List ℤ). Group s side cs × (packed_split s side cs ≡ words)) (sym f.codes_are) (record { full = full; within = f.within }, again)

-- ---- a group that is filled up

word_filled : (size : ℕ) (codes : List ℤ) → word_of codes ≡ word_of (filled size codes)
word_filled size codes =
    let n = size - length codes in
    ap (λ (z : ℤ). code_byte z + 256 * code_byte (slice_index_or codes 1 (pos 0))) (sym (code_filled n 0 codes))
    ∙ ap (λ (z : ℤ). code_byte (slice_index_or (filled size codes) 0 (pos 0)) + 256 * code_byte z) (sym (code_filled n 1 codes))

pub packed_group : (s : Shape) → ShapeFits s → (side : Side) (codes : List ℤ) (words : List ℕ) (word : ℕ) → length words ≡ words_on s side
    → word ≡ word_of codes → slice_set words 0 word ≡ packed_split s side (filled s.group codes)
packed_group s fits side codes words word len e =
    set_one words word (len ∙ one_word s fits side) ∙ ap (λ (n : ℕ). n ∷ []) (e ∙ word_filled s.group codes)

-- ---- the code that is read

code_at_is : (place word : ℕ) → place < 2 → slice_index_or (codes_in word) place (pos 0) ≡ code_at place word
code_at_is zero word h = refl
code_at_is (suc zero) word h = refl
code_at_is (suc (suc place)) word h = absurd (omega arith)

pub code_read : (s : Shape) → ShapeFits s → (side : Side) (words : List ℕ) (place : ℕ) (packing : Bool) (code : ℤ) → CodeAllowed s side (length words) packing place
    → packing ≡ is_packing (ends_on s side) words → code ≡ code_at place (slice_index words 0) → Ok code ≡ code_answer (unpacked_split s) s side words place
code_read s fits side words place packing code allowed p e =
    let word = get_or words 0 0 in
    let there : place < 2 = omega (arith, allowed.there, fits.2) in
    let unpacked : unpacked_split s side words ≡ Some (codes_in (slice_index words 0)) = cond-true _ _ _ (sym p ∙ allowed.packs) in
    ap (λ (z : ℤ). Ok z) (e ∙ sym (code_at_is place word there)) ∙ code_answer_is (unpacked_split s) s side words place (codes_in word) unpacked allowed.there allowed.words_are

-- ---- the test of words is whether they unpack

pub packing_tested : (s : Shape) (side : Side) (words : List ℕ) → is_packing (ends_on s side) words ≡ is_some (unpacked_split s side words)
packing_tested s side words = some_tested (is_packing (ends_on s side) words) (codes_in (slice_index words 0))
