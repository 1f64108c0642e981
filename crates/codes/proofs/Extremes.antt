-- Sums and products of bounded integers: their extremes, and that they are reached.
use Rattle.std.proofs.Common.{◌≡◌, ℕ, zero, suc, ◌*◌, ◌≤◌, max, List, [], ◌∷◌, length, replicate, ℤ, pos, negsuc, ◌*ℤ◌, neg_ℤ, ◌≤ℤ◌, suc-mul, mul-le-mul, arith}
use Rattle.std.specs.List.{AllByRecursion}
use Rattle.std.proofs.lemmas.Int.{ints}
use Rattle.codes.specs.Codes.{Between}
use Rattle.codes.specs.Sums.{sum_of}

-- every part is at most `high`, or at least −`low`: so is the sum, times the length
pub sum_most : {X : Type 0} (f : X → ℤ) (P : X → Type 0) (high : ℕ) → ((x : X) → P x → f x ≤ℤ pos high) → (xs : List X) → AllByRecursion P xs → sum_of f xs ≤ℤ pos (length xs * high)
sum_most f P high each [] a = omega (arith, ints)
sum_most f P high each (x ∷ xs) a =
    let h = each x a.0 in
    let t = sum_most f P high each xs a.1 in
    omega (arith, ints, suc-mul (length xs) high)

pub sum_least : {X : Type 0} (f : X → ℤ) (P : X → Type 0) (low : ℕ) → ((x : X) → P x → neg_ℤ (pos low) ≤ℤ f x) → (xs : List X) → AllByRecursion P xs → neg_ℤ (pos (length xs * low)) ≤ℤ sum_of f xs
sum_least f P low each [] a = omega (arith, ints)
sum_least f P low each (x ∷ xs) a =
    let h = each x a.0 in
    let t = sum_least f P low each xs a.1 in
    omega (arith, ints, suc-mul (length xs) low)

-- one element many times
pub all_replicate : {X : Type 0} (P : X → Type 0) (n : ℕ) (x : X) → P x → AllByRecursion P (replicate n x)
all_replicate P zero x h = tt
all_replicate P (suc n) x h = (h, all_replicate P n x h)

pub sum_up : {X : Type 0} (f : X → ℤ) (m n : ℕ) (x : X) → f x ≡ pos m → sum_of f (replicate n x) ≡ pos (n * m)
sum_up f m zero x e = omega (arith, ints)
sum_up f m (suc n) x e = let t = sum_up f m n x e in omega (arith, ints, suc-mul n m)

pub sum_down : {X : Type 0} (f : X → ℤ) (m n : ℕ) (x : X) → f x ≡ neg_ℤ (pos m) → sum_of f (replicate n x) ≡ neg_ℤ (pos (n * m))
sum_down f m zero x e = omega (arith, ints)
sum_down f m (suc n) x e = let t = sum_down f m n x e in omega (arith, ints, suc-mul n m)

-- the corners of a box around 0
pub corner_most : (p q p' q' : ℕ) (u v : ℤ) → Between (neg_ℤ (pos p)) (pos q) u → Between (neg_ℤ (pos p')) (pos q') v → (u *ℤ v) ≤ℤ pos (max (p * p') (q * q'))
corner_most p q p' q' (pos a) (pos b) h k =
    let i : a ≤ q = omega (arith, ints, h.1) in
    let j : b ≤ q' = omega (arith, ints, k.1) in
    let m : a * b ≤ q * q' = mul-le-mul i j in
    omega (arith, ints)
corner_most p q p' q' (pos a) (negsuc b) h k = omega (arith, ints)
corner_most p q p' q' (negsuc a) (pos b) h k = omega (arith, ints)
corner_most p q p' q' (negsuc a) (negsuc b) h k =
    let i : suc a ≤ p = omega (arith, ints, h.0) in
    let j : suc b ≤ p' = omega (arith, ints, k.0) in
    let m : suc a * suc b ≤ p * p' = mul-le-mul i j in
    omega (arith, ints)

pub corner_least : (p q p' q' : ℕ) (u v : ℤ) → Between (neg_ℤ (pos p)) (pos q) u → Between (neg_ℤ (pos p')) (pos q') v → neg_ℤ (pos (max (p * q') (q * p'))) ≤ℤ (u *ℤ v)
corner_least p q p' q' (pos a) (pos b) h k = omega (arith, ints)
corner_least p q p' q' (pos a) (negsuc b) h k =
    let i : a ≤ q = omega (arith, ints, h.1) in
    let j : suc b ≤ p' = omega (arith, ints, k.0) in
    let m : a * suc b ≤ q * p' = mul-le-mul i j in
    omega (arith, ints)
corner_least p q p' q' (negsuc a) (pos b) h k =
    let i : suc a ≤ p = omega (arith, ints, h.0) in
    let j : b ≤ q' = omega (arith, ints, k.1) in
    let m : suc a * b ≤ p * q' = mul-le-mul i j in
    omega (arith, ints)
corner_least p q p' q' (negsuc a) (negsuc b) h k = omega (arith, ints)

-- products of signed numbers by their magnitudes
pub neg_neg : (m n : ℕ) → neg_ℤ (pos m) *ℤ neg_ℤ (pos n) ≡ pos (m * n)
neg_neg zero zero = omega (arith, ints)
neg_neg zero (suc n) = omega (arith, ints)
neg_neg (suc m) zero = omega (arith, ints)
neg_neg (suc m) (suc n) = omega (arith, ints)

pub neg_pos : (m n : ℕ) → neg_ℤ (pos m) *ℤ pos n ≡ neg_ℤ (pos (m * n))
neg_pos zero n = omega (arith, ints)
neg_pos (suc m) n = omega (arith, ints)

pub pos_neg : (m n : ℕ) → pos m *ℤ neg_ℤ (pos n) ≡ neg_ℤ (pos (m * n))
pos_neg m zero = omega (arith, ints)
pos_neg m (suc n) = omega (arith, ints)
