-- Codes from 0 on, as natural numbers.
use Rattle.std.proofs.Common.{◌≡◌, ℕ, ◌+◌, ◌-◌, ◌*◌, ◌^◌, ◌≤◌, List, [], ◌∷◌, map, length, ℤ, pos, negsuc, ◌+ℤ◌, ◌*ℤ◌, ◌≤ℤ◌, nat_abs, refl, ap, ◌∙◌, mul-le-mul, arith}
use lib.Lanes.{Each1}
use Rattle.std.specs.List.{AllByRecursion}
use Rattle.std.proofs.lemmas.Simd.{map-map}
use Rattle.std.proofs.lemmas.List.{map-id}
use Rattle.std.proofs.lemmas.Int.{ints}
use Rattle.codes.specs.Codes.{Within}
use Rattle.plans.specs.Kinds.{bit_ends}
use Rattle.kernels.specs.Groups.{dot}

-- ---- codes of so many bits

pub abs_of : (z : ℤ) → pos 0 ≤ℤ z → pos (nat_abs z) ≡ z
abs_of (pos n) h = refl
abs_of (negsuc n) h = absurd (omega (arith, ints))

pub abs_pos : (xs : List ℕ) → map nat_abs (map pos xs) ≡ xs
abs_pos xs = map-map nat_abs pos xs ∙ map-id xs

pub record Naturals (size : ℕ) (codes : List ℤ) : Type 0 where
  pub most : Each1 (λ n. n ≤ 2 ^ size - 1) (map nat_abs codes)
  pub back : map pos (map nat_abs codes) ≡ codes

pub naturals : (size : ℕ) (codes : List ℤ) → AllByRecursion (Within (bit_ends size)) codes → Naturals size codes
naturals size [] h = record { most = tt; back = refl }
naturals size (pos n ∷ codes) (h, hs) =
    let r = naturals size codes hs in
    record { most = (omega (arith, ints), r.most); back = ap (λ (cs : List ℤ). pos n ∷ cs) r.back }
naturals size (negsuc n ∷ codes) (h, hs) = absurd (omega (arith, ints))

pub most_within : (size : ℕ) (xs : List ℕ) → Each1 (λ n. n ≤ 2 ^ size - 1) xs → AllByRecursion (Within (bit_ends size)) (map pos xs)
most_within size [] hs = tt
most_within size (x ∷ xs) (h, hs) = ((omega (arith, ints), omega (arith, ints)), most_within size xs hs)

-- ---- the sum of the products, place by place

abbrev pub dot_n : List ℕ → List ℕ → ℕ
dot_n [] ys = 0
dot_n (x ∷ xs) [] = 0
dot_n (x ∷ xs) (y ∷ ys) = x * y + dot_n xs ys

pub dot_pos : (xs ys : List ℕ) → dot (map pos xs) (map pos ys) ≡ pos (dot_n xs ys)
dot_pos [] ys = refl
dot_pos (x ∷ xs) [] = refl
dot_pos (x ∷ xs) (y ∷ ys) = ap (λ (z : ℤ). pos x *ℤ pos y +ℤ z) (dot_pos xs ys)

pub dot_most : (p q : ℕ) (xs ys : List ℕ) → Each1 (λ x. x ≤ p) xs → Each1 (λ y. y ≤ q) ys → dot_n xs ys ≤ length xs * (p * q)
dot_most p q [] ys hs ks = omega arith
dot_most p q (x ∷ xs) [] hs ks = omega arith
dot_most p q (x ∷ xs) (y ∷ ys) (h, hs) (k, ks) =
    let first : x * y ≤ p * q = mul-le-mul h k in
    let rest : dot_n xs ys ≤ length xs * (p * q) = dot_most p q xs ys hs ks in
    omega arith
