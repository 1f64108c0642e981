-- How many groups and words a list takes, and where each group lies.
use Rattle.std.proofs.Common.{◌≡◌, ℕ, zero, suc, ◌+◌, ◌-◌, ◌*◌, ◌/◌, ◌%◌, ◌<◌, ◌≤◌, min, List, length, take, drop, pos, sym, ap, ◌∙◌, inl, inr, mul-le-mul_right, mod-lt, add-mul, one-mul, mul-suc, arith}
use native.Mathlib.Nat.{mod-add-div', mul-add-div_right, div-eq_of_lt, div-eq_of_lt-le, div-le_of_le-mul}
use Rattle.std.proofs.lemmas.Nat.{mul-le, div-add-mod', mod_below}
use Rattle.std.proofs.lemmas.List.{length-drop, take_all}
use Rattle.std.proofs.lemmas.Bool.{cases_lt}
use Rattle.codes.specs.declared.facts.Facts.{Facts}
use Rattle.codes.specs.declared.shape.Shape.{Shape}
use Rattle.codes.specs.declared.side.Side.{Side}
use Rattle.codes.specs.declared.side.Side.TheVariants.{Weights, Activations}
use Rattle.codes.specs.Codes.{Within, groups}
use Rattle.codes.specs.Shapes.{ends_on, words_on, ShapeRules}
use Rattle.kernels.specs.Lists.{words_for}

-- rounding up: the whole groups, and one for the rest
pub groups_are : (size n : ℕ) → 1 ≤ size → groups size n ≡ n / size + min 1 (n % size)
groups_are size n l =
    let q : ℕ = n / size in
    let r : ℕ = n % size in
    let parts : r + q * size ≡ n = mod-add-div' n size in
    let below : r < size = mod-lt n l in
    let sum : n + (size - 1) ≡ q * size + (r + (size - 1)) = omega arith in
    let last : (r + (size - 1)) / size ≡ min 1 r =
    elim (cases_lt 0 r) [
      | inl some ↦ div-eq_of_lt-le {k = 1} size (omega arith) (omega arith) ∙ omega arith
      | inr none ↦ div-eq_of_lt (omega arith) ∙ omega arith
    ] in
    ap (λ x. x / size) sum ∙ mul-add-div_right l q (r + (size - 1)) ∙ ap (λ x. q + x) last

-- a group takes at least 1 code, so n codes take at most n groups
pub groups_few : (size n : ℕ) → 1 ≤ size → groups size n ≤ n
groups_few size zero l = let e : groups size 0 ≡ 0 = div-eq_of_lt (omega arith) in omega arith
groups_few size (suc n) l =
    let p : 1 * n ≤ size * n = mul-le-mul_right n l in
    div-le_of_le-mul size (omega (arith, p, one-mul n, mul-suc size n))

-- the same of the facts of a kernel
pub groups_read : (f : Facts) (n : ℕ) → n / f.shape.group + min 1 (n % f.shape.group) ≡ groups f.shape.group n
groups_read f n = sym (groups_are f.shape.group n f.shape_rules.2.0)

pub groups_read_few : (f : Facts) (n : ℕ) → n / f.shape.group + min 1 (n % f.shape.group) ≤ n
groups_read_few f n = omega (arith, groups_read f n, groups_few f.shape.group n f.shape_rules.2.0)

-- and their groups hold them
pub groups_hold : (size n : ℕ) → 1 ≤ size → n ≤ groups size n * size
groups_hold size n l = omega (arith, div-add-mod' (n + (size - 1)) size, mod_below (n + (size - 1)) size (omega arith))

-- a group begins within the list
pub group_starts : (g size n : ℕ) → 1 ≤ size → g < groups size n → g * size < n
group_starts g size n l h =
    omega (arith, div-add-mod' (n + (size - 1)) size, mul-le (g + 1) size (groups size n) size (omega arith) (omega arith), add-mul g 1 size, one-mul size)

-- the words of a group lie within the words of all
pub part_ends : (g width count : ℕ) → g < count → g * width + width ≤ count * width
part_ends g width count h = omega (arith, mul-le (g + 1) width count width (omega arith) (omega arith), add-mul g 1 width, one-mul width)

-- the words of a list are those of all its groups
pub words_exact : (f : Facts) (side : Side) (n count width words : ℕ) → words ≡ words_for f.shape side n → count ≡ groups f.shape.group n → width ≡ words_on f.shape side → words ≡ count * width
words_exact f side n count width words e k h = e ∙ ap (λ x. x * words_on f.shape side) (sym k) ∙ ap (λ y. count * y) (sym h)

-- a group takes at most 8 words
pub few_words : (f : Facts) (side : Side) (words : ℕ) → words ≡ words_on f.shape side → words ≤ 8
few_words f Weights words e = omega (arith, f.shape_rules.3.0)
few_words f Activations words e = omega (arith, f.shape_rules.4.0)

-- and at least 1
pub some_words : (f : Facts) (side : Side) → 1 ≤ words_on f.shape side
some_words f Weights = f.shape_rules.3.0.0
some_words f Activations = f.shape_rules.4.0.0

-- the sizes by the facts that were read are those of the kernel
pub size_of : (f F : Facts) → f ≡ F → f.shape.group ≡ F.shape.group
size_of f F e = ap (λ (x : Facts). x.shape.group) e

pub width_of : (f F : Facts) (side : Side) (width : ℕ) → width ≡ words_on f.shape side → f ≡ F → width ≡ words_on F.shape side
width_of f F side width h e = h ∙ ap (λ (x : Facts). words_on x.shape side) e

-- code 0 lies within the ends of each side
pub zero_within : (s : Shape) (side : Side) → ShapeRules s → Within (ends_on s side) (pos 0)
zero_within s Weights r = (r.0.0.1, r.0.1.0)
zero_within s Activations r = (r.1.0.1, r.1.1.0)

-- a part from `at` as the code cuts it: up to `size` elements, or to the list's end
pub part_is : {X : Type 0} (xs : List X) (at size : ℕ) → take (min (length xs) (at + size) - at) (drop at xs) ≡ take size (drop at xs)
part_is xs at size =
    elim (cases_lt (length xs) (at + size)) [
      | inl h ↦
          let e : min (length xs) (at + size) - at ≡ length xs - at = omega arith in
          ap (λ k. take k (drop at xs)) e
          ∙ (take_all (length xs - at) (drop at xs) (omega (arith, length-drop at xs)) ∙ sym (take_all size (drop at xs) (omega (arith, length-drop at xs))))
      | inr h ↦ let e : min (length xs) (at + size) - at ≡ size = omega arith in ap (λ k. take k (drop at xs)) e
    ]

pub span_is : {X : Type 0} (xs : List X) (at size : ℕ) → take (at + size - at) (drop at xs) ≡ take size (drop at xs)
span_is xs at size = let e : at + size - at ≡ size = omega arith in ap (λ k. take k (drop at xs)) e
