-- What is read of words: one code, whether they are a packing, and their codes.
use Rattle.std.proofs.Common.{◌≡◌, ℕ, zero, suc, ◌-◌, ◌*◌, ◌/◌, ◌%◌, ◌^◌, ◌<◌, ◌≤◌, true, List, length, get_or, ℤ, pos, is_some, Some, sym, refl, ap, ◌∙◌, subst, mul-le-mul_left, div-one, arith, pow_mono, w16, to_z, SFits, rules}
use native.Mathlib.Nat.{pow-zero, pow-succ', div-div-eq-div-mul}
use lib.ListN.{get_or-map}
use lib.Lanes.{digits_l}
use mir.Val.{hbits}
use Rattle.std.proofs.lemmas.Int.{to_z_pos}
use Rattle.std.proofs.lemmas.List.{get_or-reverse}
use Rattle.std.proofs.lemmas.Simd.{Each1-get_or}
use Rattle.codes.specs.declared.shape.Shape.{Shape}
use Rattle.codes.specs.declared.side.Side.{Side}
use Rattle.codes.specs.declared.side.Side.TheVariants.{Weights, Activations}
use Rattle.kernels.proofs.TestedWords.{some_tested}
use Rattle.lanes.specs.Lanes.{lane_for, lane_of}
use Rattle.lanes.specs.Words.{is_packed_word, is_packing, ordered, codes_in, unpacked_lanes}
use Rattle.lanes.specs.Rows.{SizeFits, ShapeFits, size_on}
use Rattle.lanes.specs.Masks.{pow_lanes}
use Rattle.lanes.specs.Digits.{length_digits, word_each}
use Rattle.lanes.specs.Packings.{lane_shape, shape_is, Found, found_side}

-- ---- one code

get_or_digits : (b n v i : ℕ) → i < n → get_or (digits_l b n v) i 0 ≡ v / b ^ i % b
get_or_digits b zero v i h = absurd (omega arith)
get_or_digits b (suc n) v zero h = rw pow-zero (rw div-one refl)
get_or_digits b (suc n) v (suc i) h =
    let k : i < n = omega arith in
    get_or_digits b n (v / b) i k ∙ ap (λ (z : ℕ). z % b) (div-div-eq-div-mul v b (b ^ i) ∙ ap (λ (z : ℕ). v / z) (sym (pow-succ' b i)))

get_or_order : (side : Side) (xs : List ℕ) (d k : ℕ) → length xs ≡ d → k < d → get_or (ordered side xs) k 0 ≡ get_or xs (lane_for side d k) 0
get_or_order Weights xs d k e h =
    let l : k < length xs = omega arith in
    get_or-reverse xs k 0 l ∙ ap (λ (n : ℕ). get_or xs (n - 1 - k) 0) e
get_or_order Activations xs d k e h = refl

pub lane_below : (side : Side) (d k : ℕ) → k < d → lane_for side d k < d
lane_below Weights d k h = omega arith
lane_below Activations d k h = h

digit_is : (w d v i : ℕ) → i < d → get_or (digits_l (2 ^ w) d v) i 0 ≡ lane_of w i v
digit_is w d v i h = get_or_digits (2 ^ w) d v i h ∙ ap (λ (z : ℕ). v / z % 2 ^ w) (sym (pow_lanes w i))

-- the lane that is cut out is the code, and at most the highest
pub code_at_is : (w d : ℕ) (side : Side) (v place : ℕ) → place < d → get_or (codes_in (2 ^ w) d side v) place (pos 0) ≡ pos (lane_of w (lane_for side d place) v)
code_at_is w d side v place h =
    let ds : List ℕ = digits_l (2 ^ w) d v in
    get_or-map pos (ordered side ds) place 0
    ∙ ap pos (get_or_order side ds d place (length_digits (2 ^ w) d v) h ∙ digit_is w d v (lane_for side d place) (lane_below side d place h))

pub code_small : (w d high : ℕ) (side : Side) (v place : ℕ) → place < d → is_packed_word (2 ^ w) d high v ≡ true → lane_of w (lane_for side d place) v ≤ high
code_small w d high side v place h ok =
    let i : ℕ = lane_for side d place in
    let l : lane_for side d place < d = lane_below side d place h in
    let g : lane_for side d place < length (digits_l (2 ^ w) d v) = omega (arith, length_digits (2 ^ w) d v) in
    subst (λ (z : ℕ). z ≤ high) (digit_is w d v i l) (Each1-get_or (λ z. z ≤ high) (digits_l (2 ^ w) d v) i 0 g (word_each (2 ^ w) d high v ok))

-- its shift stays within 16 bits, and it is a number of 16 bits with sign
pub lane_fits : (w d size : ℕ) (side : Side) (place lane : ℕ) → SizeFits w d size → place < d → lane ≡ lane_for side d place → w * lane ≤ 16
lane_fits w d size side place lane fits h e =
    let l : lane_for side d place < d = lane_below side d place h in
    let m : lane ≤ d - 1 = omega arith in
    omega (arith, mul-le-mul_left w m, fits.2)

module _ (w d size : ℕ) (side : Side) (v place lane r : ℕ) (fits : SizeFits w d size) (h : place < d) (ok : is_packed_word (2 ^ w) d (2 ^ size - 1) v ≡ true)
    (el : lane ≡ lane_for side d place) (er : r ≡ lane_of w lane v) where
  below : r < 2 ^ hbits w16
  below =
      let f : lane_of w (lane_for side d place) v ≤ 2 ^ size - 1 = code_small w d (2 ^ size - 1) side v place h ok in
      let m : 2 ^ size ≤ 2 ^ 8 = pow_mono fits.0.1 in
      let e : r ≡ lane_of w (lane_for side d place) v = er ∙ ap (λ (z : ℕ). lane_of w z v) el in
      omega arith

  pub lane_small : SFits w16 (pos r)
  lane_small =
      let b : r < 2 ^ hbits w16 = below in
      search rules

  pub code_is : to_z w16 r ≡ get_or (codes_in (2 ^ w) d side v) place (pos 0)
  code_is =
      let e : r ≡ lane_of w (lane_for side d place) v = er ∙ ap (λ (z : ℕ). lane_of w z v) el in
      to_z_pos w16 r below ∙ ap pos e ∙ sym (code_at_is w d side v place h)

-- ---- packings

-- the test of words is whether they unpack
packing_lanes : (w d x y : ℕ) (side : Side) (words : List ℕ)
    → is_packing (2 ^ w) d (2 ^ size_on x y side - 1) words ≡ is_some (unpacked_lanes w (lane_shape d x y) side words)
packing_lanes w d x y Weights words = some_tested (is_packing (2 ^ w) d (2 ^ x - 1) words) (codes_in (2 ^ w) d Weights (get_or words 0 0))
packing_lanes w d x y Activations words = some_tested (is_packing (2 ^ w) d (2 ^ y - 1) words) (codes_in (2 ^ w) d Activations (get_or words 0 0))

pub packing_tested : (s : Shape) (w d x y : ℕ) → ShapeFits s d x y → (side : Side) (words : List ℕ)
    → is_packing (2 ^ w) d (2 ^ size_on x y side - 1) words ≡ is_some (unpacked_lanes w s side words)
packing_tested s w d x y fits side words =
    packing_lanes w d x y side words ∙ ap (λ (t : Shape). is_some (unpacked_lanes w t side words)) (sym (shape_is s d x y fits))

-- words that are a packing
found_lanes : (w d x y : ℕ) (side : Side) (words : List ℕ) (codes : List ℤ) → unpacked_lanes w (lane_shape d x y) side words ≡ Some codes
    → Found w d (2 ^ size_on x y side - 1) side words codes
found_lanes w d x y Weights words codes e = found_side w d (2 ^ x - 1) Weights words codes e
found_lanes w d x y Activations words codes e = found_side w d (2 ^ y - 1) Activations words codes e

pub found : (s : Shape) (w d x y : ℕ) → ShapeFits s d x y → (side : Side) (words : List ℕ) (codes : List ℤ)
    → unpacked_lanes w s side words ≡ Some codes → Found w d (2 ^ size_on x y side - 1) side words codes
found s w d x y fits side words codes h =
    found_lanes w d x y side words codes (ap (λ (t : Shape). unpacked_lanes w t side words) (sym (shape_is s d x y fits)) ∙ h)
