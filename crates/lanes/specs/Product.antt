-- The product of two words of lanes, of which one is reversed: the read lane has the sum of the products, and the
-- lanes below it stay below it.
use Rattle.std.specs.Prelude.{◌≡◌, ℕ, zero, suc, ◌+◌, ◌*◌, ◌/◌, ◌%◌, ◌^◌, ◌<◌, ◌≤◌, List, [], ◌∷◌, length}
use Rattle.std.proofs.Common.{sym, ap, ◌∙◌, pow-suc, mul-le-mul, mul-le-mul_left, mul-le-mul_right, mul-pos, div-add-mod', arith}
use Rattle.std.proofs.Math.Nat.{pow-zero, add-mod-mod}
use Rattle.std.specs.Simd.Lanes.{number_l, Each1}
use Rattle.std.proofs.Math.Arith.{mod-mul, digits_div, digits_mod, digits_lt}
use Rattle.kernels.proofs.Naturals.{dot_n}
use Rattle.lanes.specs.Words.{rep}

-- the lane above n lanes of base b, and what lies below it
abbrev pub lane_at : (b n acc : ℕ) → ℕ
lane_at b n acc = acc / b ^ n % b

abbrev pub under_lane : (b n acc : ℕ) → ℕ
under_lane b n acc = acc % b ^ n

-- the first code in the highest of the lanes
abbrev pub high_n : ℕ → List ℕ → ℕ
high_n b [] = 0
high_n b (w ∷ ws) = w * b ^ length ws + high_n b ws

-- what lies below the read lane of the product, and what lies above it
abbrev pub low : ℕ → List ℕ → List ℕ → ℕ
low b [] ys = 0
low b (w ∷ ws) [] = 0
low b (w ∷ ws) (y ∷ ys) = y * high_n b ws + b * low b ws ys

abbrev pub up : ℕ → List ℕ → List ℕ → ℕ
up b [] ys = 0
up b (w ∷ ws) [] = 0
up b (w ∷ ws) (y ∷ ys) = w * number_l b ys + up b ws ys

step_eq : (b p h a u d l w y q : ℕ) → q ≡ p * b → b * (h * a) ≡ u * (p * b) + d * p + b * l
    → b * ((w * p + h) * (y + b * a)) ≡ (w * a + u) * (q * b) + (w * y + d) * q + b * (y * h + b * l)
step_eq b p h a u d l w y q e ih =
    let k : b * (h * a) * b ≡ (u * (p * b) + d * p + b * l) * b = ap (λ (x : ℕ). x * b) ih in
    rw e (omega arith)

pub times : (b : ℕ) (ws ys : List ℕ) → length ws ≡ length ys
    → b * (high_n b ws * number_l b ys) ≡ up b ws ys * (b ^ length ws * b) + dot_n ws ys * b ^ length ws + b * low b ws ys
times b [] [] e = omega arith
times b [] (y ∷ ys) e = omega arith
times b (w ∷ ws) [] e = omega arith
times b (w ∷ ws) (y ∷ ys) e =
    let e' : length ws ≡ length ys = omega arith in
    step_eq b (b ^ length ws) (high_n b ws) (number_l b ys) (up b ws ys) (dot_n ws ys) (low b ws ys) w y (b ^ suc (length ws))
    (pow-suc b (length ws)) (times b ws ys e')

-- ---- the bound on what lies below

-- the lanes of 1 also from the top
pub rep_top : (b n : ℕ) → rep b (suc n) ≡ b ^ n + rep b n
rep_top b zero = rw pow-zero (omega arith)
rep_top b (suc n) =
    let ih : rep b (suc n) ≡ b ^ n + rep b n = rep_top b n in
    let k : rep b (suc n) * b ≡ (b ^ n + rep b n) * b = ap (λ (x : ℕ). x * b) ih in
    rw pow-suc (omega arith)

-- a base below its power's lanes of 1: b * rep + 1 = rep + b ^ n
pub rep_pow : (b n : ℕ) → b * rep b n + 1 ≡ rep b n + b ^ n
rep_pow b n = omega (arith, rep_top b n)

pub high_le : (b p : ℕ) (ws : List ℕ) → Each1 (λ w. w ≤ p) ws → high_n b ws ≤ p * rep b (length ws)
high_le b p [] h = omega arith
high_le b p (w ∷ ws) (h, hs) =
    let k : w * b ^ length ws ≤ p * b ^ length ws = mul-le-mul_right (b ^ length ws) h in
    let ih : high_n b ws ≤ p * rep b (length ws) = high_le b p ws hs in
    let t : p * rep b (suc (length ws)) ≡ p * (b ^ length ws + rep b (length ws)) = ap (λ (x : ℕ). p * x) (rep_top b (length ws)) in
    omega arith

low_step : (b p q w y : ℕ) (ws ys : List ℕ) → b * low b ws ys ≤ length ws * (p * q) * rep b (length ws)
    → Each1 (λ v. v ≤ p) ws → y ≤ q → low b (w ∷ ws) (y ∷ ys) ≤ suc (length ws) * (p * q) * rep b (length ws)
low_step b p q w y ws ys ih hs k =
    let a : y * high_n b ws ≤ q * (p * rep b (length ws)) = mul-le-mul k (high_le b p ws hs) in
    omega arith

below_le : (b p q : ℕ) (ws ys : List ℕ) → length ws ≡ length ys → Each1 (λ w. w ≤ p) ws → Each1 (λ y. y ≤ q) ys
    → b * low b ws ys ≤ length ws * (p * q) * rep b (length ws)
below_le b p q [] ys e hs ks = omega arith
below_le b p q (w ∷ ws) [] e hs ks = omega arith
below_le b p q (w ∷ ws) (y ∷ ys) e (h, hs) (k, ks) =
    let e' : length ws ≡ length ys = omega arith in
    let l : low b (w ∷ ws) (y ∷ ys) ≤ suc (length ws) * (p * q) * rep b (length ws) = low_step b p q w y ws ys (below_le b p q ws ys e' hs ks) hs k in
    let m : b * low b (w ∷ ws) (y ∷ ys) ≤ b * (suc (length ws) * (p * q) * rep b (length ws)) = mul-le-mul_left b l in
    omega arith

pub low_le : (b p q w y : ℕ) (ws ys : List ℕ) → length ws ≡ length ys → Each1 (λ v. v ≤ p) (w ∷ ws) → Each1 (λ z. z ≤ q) (y ∷ ys)
    → low b (w ∷ ws) (y ∷ ys) ≤ suc (length ws) * (p * q) * rep b (length ws)
low_le b p q w y ws ys e (h, hs) (k, ks) = low_step b p q w y ws ys (below_le b p q ws ys e hs ks) hs k

-- ---- one step of an accumulator

-- t in each of n lanes stays below the lane above them
pub below_fits : (b n t : ℕ) → t < b → t * rep b n < b ^ n
below_fits b n t h =
    let k : suc t * rep b n ≤ b * rep b n = mul-le-mul_right (rep b n) h in
    omega (arith, rep_pow b n)

-- a sum in a word of q * b * r numbers, that is cut to the word
pub step_acc : (q b r acc x u d l : ℕ) → 0 < q → 0 < b → 0 < r → x ≡ u * (q * b) + d * q + l
    → acc % q + l < q → acc / q % b + d < b
    → (((acc + x % (r * (q * b))) % (r * (q * b))) / q % b ≡ acc / q % b + d) × (((acc + x % (r * (q * b))) % (r * (q * b))) % q ≡ acc % q + l)
step_acc q b r acc x u d l hq hb hr e hl hd =
    let n : ℕ = r * (q * b) in
    let c : ℕ = q * b in
    let hc : 0 < c = mul-pos hq hb in
    let lo : ℕ = acc % q + l in
    let la : ℕ = acc / q % b + d in
    let s0 : acc ≡ acc / q * q + acc % q = sym (div-add-mod' acc q) in
    let s1 : acc / q ≡ acc / q / b * b + acc / q % b = sym (div-add-mod' (acc / q) b) in
    let s2 : acc / q * q ≡ (acc / q / b * b + acc / q % b) * q = ap (λ (z : ℕ). z * q) s1 in
    let y : acc + x ≡ (acc / q / b + u) * (q * b) + (la * q + lo) = omega arith in
    let small : la * q + lo < b * q = digits_lt hd hl in
    let small' : la * q + lo < q * b = omega arith in
    let m : (acc + x) % c ≡ la * q + lo = ap (λ (z : ℕ). z % c) y ∙ digits_mod (acc / q / b + u) small' in
    let t : (acc + x % n) % n ≡ (acc + x) / c % r * c + (la * q + lo) =
    add-mod-mod acc x n ∙ mod-mul (acc + x) hr hc ∙ ap (λ (z : ℕ). (acc + x) / c % r * c + z) m in
    let t' : (acc + x % n) % n ≡ ((acc + x) / c % r * b + la) * q + lo = omega arith in
    let v : ((acc + x % n) % n) / q ≡ (acc + x) / c % r * b + la = ap (λ (z : ℕ). z / q) t' ∙ digits_div ((acc + x) / c % r * b + la) hl in
    (ap (λ (z : ℕ). z % b) v ∙ digits_mod ((acc + x) / c % r) hd, ap (λ (z : ℕ). z % q) t' ∙ digits_mod ((acc + x) / c % r * b + la) hl)
