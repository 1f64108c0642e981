-- The sum over planes is the sum of the products of the codes.
use Rattle.std.proofs.Common.{◌≡◌, ℕ, zero, suc, ◌+◌, ◌*◌, ◌/◌, ◌%◌, ◌^◌, ◌<◌, ◌≤◌, min, List, [], ◌∷◌, length, pos, sym, refl, ap, ◌∙◌, mul-le-mul, pow-suc, add-one, arith, pow_mono}
use lib.Bits.{bit_and, and_step, and_zero_l, and_le_l}
use lib.Count.{ones, ones_step, ones-le}
use lib.Lanes.{Each1}
use Rattle.kernels.specs.Groups.{dot}
use Rattle.kernels.proofs.Naturals.{dot_n, dot_pos}
use Rattle.planes.specs.Planes.{planes_from, codes_in}
use Rattle.planes.specs.Sums.{ones_shared, shared_from, plane_sum_from, plane_sum}
use Rattle.planes.specs.Transposed.{low_bits, rests, transposed, rests_below, planes_transposed}

-- ---- the lowest bit of two words, and the others

bit : (n : ℕ) → n % 2 < 2
bit n = omega arith

min_bits : (a b : ℕ) → a < 2 → b < 2 → min a b ≡ a * b
min_bits zero b h k = omega arith
min_bits (suc zero) b h k = omega arith
min_bits (suc (suc a)) b h k = absurd (omega arith)

low_of : (h l : ℕ) → l < 2 → ((h * 2 + l) / 2 ≡ h) × ((h * 2 + l) % 2 ≡ l)
low_of h l k = (omega arith, omega arith)

min_below : (a b : ℕ) → a < 2 → min a b < 2
min_below a b h = omega arith

ones_halved : (w a : ℕ) → ones_shared w a ≡ w % 2 * (a % 2) + ones_shared (w / 2) (a / 2)
ones_halved w a =
    let m : ℕ = min (w % 2) (a % 2) in
    let h : ℕ = bit_and (w / 2) (a / 2) in
    let f = low_of h m (min_below (w % 2) (a % 2) (bit w)) in
    ones_step (bit_and w a)
    ∙ ap (λ (z : ℕ). z % 2 + ones (z / 2)) (and_step w a)
    ∙ ap (λ (z : ℕ). z + ones ((h * 2 + m) / 2)) f.1
    ∙ ap (λ (z : ℕ). m + ones z) f.0
    ∙ ap (λ (z : ℕ). z + ones h) (min_bits (w % 2) (a % 2) (bit w) (bit a))

pow_next : (k m : ℕ) → 2 ^ (k + (m + 1)) ≡ 2 ^ (k + m) * 2
pow_next k m =
    let e : k + (m + 1) ≡ suc (k + m) = omega arith in
    ap (λ (z : ℕ). 2 ^ z) e ∙ pow-suc 2 (k + m)

-- p = 2^(k + m), q = 2^(k + m + 1), b and c the low bits of the words, n the low bits of the other planes
shared_turn : (p q b c n o r s : ℕ) → q ≡ p * 2 → o ≡ b * c + r → o * p + (q * (b * n) + s) ≡ p * (b * (c + 2 * n)) + (r * p + s)
shared_turn p q b c n o r s e f =
    let k : o * p ≡ (b * c + r) * p = ap (λ (z : ℕ). z * p) f in
    let m : q * (b * n) ≡ p * 2 * (b * n) = ap (λ (z : ℕ). z * (b * n)) e in
    omega arith

shared_halved : (k m w : ℕ) (ys : List ℕ) → shared_from k m w ys ≡ 2 ^ (k + m) * (w % 2 * low_bits ys) + shared_from k m (w / 2) (rests ys)
shared_halved k m w [] = omega arith
shared_halved k m w (y ∷ ys) =
    ap (λ (z : ℕ). ones_shared w y * 2 ^ (k + m) + z) (shared_halved k (m + 1) w ys)
    ∙ shared_turn (2 ^ (k + m)) (2 ^ (k + (m + 1))) (w % 2) (y % 2) (low_bits ys) (ones_shared w y) (ones_shared (w / 2) (y / 2)) (shared_from k (m + 1) (w / 2) (rests ys))
    (pow_next k m) (ones_halved w y)

-- p = 2^k, q = 2^(k + 1)
sum_turn : (p q b m n s t : ℕ) → q ≡ p * 2 → (p * (b * n) + s) + (q * (m * n) + t) ≡ p * ((b + 2 * m) * n) + (s + t)
sum_turn p q b m n s t e =
    let k : q * (m * n) ≡ p * 2 * (m * n) = ap (λ (z : ℕ). z * (m * n)) e in
    omega arith

sum_halved : (k : ℕ) (ws ys : List ℕ) → plane_sum_from k ws ys ≡ 2 ^ k * (low_bits ws * low_bits ys) + plane_sum_from k (rests ws) (rests ys)
sum_halved k [] ys = omega arith
sum_halved k (w ∷ ws) ys =
    let z : k + 0 ≡ k = omega arith in
    let q : 2 ^ (k + 1) ≡ 2 ^ k * 2 = ap (λ (i : ℕ). 2 ^ i) (add-one k) ∙ pow-suc 2 k in
    ap (λ (i : ℕ). i + plane_sum_from (k + 1) ws ys) (shared_halved k 0 w ys ∙ ap (λ (i : ℕ). 2 ^ i * (w % 2 * low_bits ys) + shared_from k 0 (w / 2) (rests ys)) z)
    ∙ ap (λ (i : ℕ). 2 ^ k * (w % 2 * low_bits ys) + shared_from k 0 (w / 2) (rests ys) + i) (sum_halved (k + 1) ws ys)
    ∙ sum_turn (2 ^ k) (2 ^ (k + 1)) (w % 2) (low_bits ws) (low_bits ys) (shared_from k 0 (w / 2) (rests ys)) (plane_sum_from (k + 1) (rests ws) (rests ys)) q

-- ---- words of no places share nothing

ones_none : ones 0 ≡ 0
unfolding ones
ones_none = refl

shared_none : (k m w : ℕ) (ys : List ℕ) → w < 1 → shared_from k m w ys ≡ 0
shared_none k m w [] h = refl
shared_none k m w (y ∷ ys) h =
    let none : w ≡ 0 = omega arith in
    let o : ones_shared w y ≡ 0 = ap (λ (z : ℕ). ones_shared z y) none ∙ ap ones (and_zero_l y) ∙ ones_none in
    ap (λ (z : ℕ). z * 2 ^ (k + m) + shared_from k (m + 1) w ys) o ∙ omega (arith, shared_none k (m + 1) w ys h)

sum_none : (k : ℕ) (ws ys : List ℕ) → Each1 (λ w. w < 1) ws → plane_sum_from k ws ys ≡ 0
sum_none k [] ys h = refl
sum_none k (w ∷ ws) ys (h, hs) = omega (arith, shared_none k 0 w ys h, sum_none (k + 1) ws ys hs)

-- ---- the sum of the products

sum_transposed : (n k : ℕ) (ws ys : List ℕ) → Each1 (λ w. w < 2 ^ n) ws → plane_sum_from k ws ys ≡ 2 ^ k * dot_n (transposed n ws) (transposed n ys)
sum_transposed zero k ws ys h = sum_none k ws ys h ∙ omega arith
sum_transposed (suc n) k ws ys h =
    let next : plane_sum_from k (rests ws) (rests ys) ≡ 2 ^ k * dot_n (transposed n (rests ws)) (transposed n (rests ys)) = sum_transposed n k (rests ws) (rests ys) (rests_below n ws h) in
    sum_halved k ws ys ∙ omega arith

-- over any number of places and planes
pub sum_planes : (n : ℕ) (ws ys : List ℕ) → Each1 (λ w. w < 2 ^ n) ws → plane_sum ws ys ≡ dot_n (planes_from 0 n ws) (planes_from 0 n ys)
sum_planes n ws ys h =
    sum_transposed n 0 ws ys h ∙ omega arith
    ∙ ap (λ (z : List ℕ). dot_n z (transposed n ys)) (sym (planes_transposed n ws)) ∙ ap (λ (z : List ℕ). dot_n (planes_from 0 n ws) z) (sym (planes_transposed n ys))

pub sum_dot : (n : ℕ) (ws ys : List ℕ) → Each1 (λ w. w < 2 ^ n) ws → pos (plane_sum ws ys) ≡ dot (codes_in n ws) (codes_in n ys)
sum_dot n ws ys h = ap pos (sum_planes n ws ys h) ∙ sym (dot_pos (planes_from 0 n ws) (planes_from 0 n ys))

-- ---- its bounds, for words of 16 bits and at most 8 planes on each side

pub shared_small : (k m w : ℕ) (ys : List ℕ) → k < 8 → m + length ys ≤ 8 → w < 2 ^ 16 → shared_from k m w ys ≤ length ys * 2 ^ 18
shared_small k m w [] hk hm hw = omega arith
shared_small k m w (y ∷ ys) hk hm hw =
    let l : bit_and w y < 2 ^ 16 = omega (arith, and_le_l w y) in
    let o : ones_shared w y ≤ 16 = ones-le 16 (bit_and w y) l in
    let e : k + m ≤ 14 = omega arith in
    let q : 2 ^ (k + m) ≤ 2 ^ 14 = pow_mono e in
    let t : ones_shared w y * 2 ^ (k + m) ≤ 16 * 2 ^ 14 = mul-le-mul o q in
    let h : m + 1 + length ys ≤ 8 = omega arith in
    omega (arith, shared_small k (m + 1) w ys hk h hw)

pub sum_small : (k : ℕ) (ws ys : List ℕ) → k + length ws ≤ 8 → length ys ≤ 8 → Each1 (λ w. w < 2 ^ 16) ws → plane_sum_from k ws ys ≤ length ws * 2 ^ 21
sum_small k [] ys hk hy h = omega arith
sum_small k (w ∷ ws) ys hk hy (h, hs) =
    let hk1 : k < 8 = omega arith in
    let hy1 : 0 + length ys ≤ 8 = omega arith in
    let hk2 : k + 1 + length ws ≤ 8 = omega arith in
    omega (arith, shared_small k 0 w ys hk1 hy1 h, sum_small (k + 1) ws ys hk2 hy hs)
