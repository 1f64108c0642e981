-- The shape of each kind keeps the rules of a shape.
use Rattle.std.proofs.Common.{◌≡◌, ℕ, ◌-◌, ◌^◌, ◌<◌, ◌≤◌, ◌⊎◌, refl, ap, inl, inr, div-lt_iff_lt-mul, arith}
use lib.Pow.{pow-lt}
use Rattle.std.proofs.lemmas.Int.{ints}
use Rattle.std.proofs.lemmas.Bool.{cases_lt}
use Rattle.codes.specs.Codes.{Range, groups}
use Rattle.codes.specs.Shapes.{EndsRules, WordsRules, ShapeRules}
use Rattle.plans.specs.declared.kind.Kind.{Kind}
use Rattle.plans.specs.declared.kind.Kind.TheVariants.{P1, P2, Planes, Split}
use Rattle.plans.specs.declared.request.Request.{Request}
use Rattle.plans.specs.Kinds.{ends_of, group_size, group_words, shape_of}
use Rattle.plans.specs.Questions.{largest_size, GoodSizes, GoodDepth}
use Rattle.plans.specs.Bounds.{top_code}

ones_range : (n : ℕ) → Range 1 8 n → Range 1 255 (2 ^ n - 1)
ones_range n h = (omega (arith, pow-lt {i = 0} {j = n} h.0), elim (cases_lt n 8) [ inl l ↦ omega (arith, pow-lt {i = n} {j = 8} l) | inr g ↦ (let n8 : n ≡ 8 = omega (arith, h.1) in let e : 2 ^ n ≡ 2 ^ 8 = ap (λ (m : ℕ). 2 ^ m) n8 in omega arith) ])

pub top_range : (k : Kind) (size : ℕ) → Range 1 (largest_size k) size → Range 1 255 (top_code k size)
top_range P1 size h = ones_range size h
top_range P2 size h = ones_range size h
top_range Planes size h = ones_range size h
top_range Split size h = (h.0, omega (arith, h.1))

pub top_ones : (k : Kind) (size : ℕ) → (k ≡ P1) ⊎ ((k ≡ P2) ⊎ (k ≡ Planes)) → 2 ^ size - 1 ≡ top_code k size
top_ones k size h = elim h [ inl e ↦ rw e refl | inr f ↦ elim f [ inl e ↦ rw e refl | inr e ↦ rw e refl ] ]

ends_rules : (k : Kind) (size : ℕ) → Range 1 (largest_size k) size → EndsRules (ends_of k size)
ends_rules P1 size h = let t = top_range P1 size h in omega (arith, ints)
ends_rules P2 size h = let t = top_range P2 size h in omega (arith, ints)
ends_rules Planes size h = let t = top_range Planes size h in omega (arith, ints)
ends_rules Split size h = omega (arith, ints)

group_range : (k : Kind) (r : Request) → GoodDepth k r → Range 1 128 (group_size k r)
group_range P1 r h = omega arith
group_range P2 r h = omega arith
group_range Planes r h = omega arith
group_range Split r h = omega arith

-- one word a group
one_word : (group : ℕ) → 1 ≤ group → WordsRules group 1
one_word group h =
    let few : groups group 128 < 129 = (div-lt_iff_lt-mul h).1 (omega arith) in
    (omega arith, omega arith)

words_rules : (k : Kind) (r : Request) (size : ℕ) → Range 1 (largest_size k) size → GoodDepth k r → WordsRules (group_size k r) (group_words k size)
words_rules P1 r size h d = one_word r.depth d.0
words_rules P2 r size h d = one_word r.depth (omega arith)
words_rules Planes r size h d = omega arith
words_rules Split r size h d = omega arith

pub shape_rules_hold : (k : Kind) (r : Request) → GoodSizes k r → GoodDepth k r → ShapeRules (shape_of k r)
shape_rules_hold k r s d = (
  ends_rules k r.weight_size s.0,
  ends_rules k r.activation_size s.1,
  group_range k r d,
  words_rules k r r.weight_size s.0 d,
  words_rules k r r.activation_size s.1 d,
)
