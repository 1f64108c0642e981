-- Masks: the low bits of a lane, and the word that all words of a side are part of.
use Rattle.std.specs.Prelude.{◌≡◌, ℕ, zero, suc, ◌+◌, ◌-◌, ◌*◌, ◌/◌, ◌%◌, ◌^◌, ◌<◌, ◌≤◌, min, Bool, ◌&&◌, ◌==◌, bit_and, nat_eq, nat_le, refl}
use Rattle.std.proofs.Common.{sym, ap, subst, ◌∙◌, inl, inr, arith, add-one, pow-suc, mul-zero, mul-suc, mul-le-mul_left, mod-eq_of_lt, pow_mono}
use Rattle.std.proofs.Math.Nat.{pow-zero, mod-le}
use Rattle.std.specs.Int.Bits.{and_zero_r, and_step}
use Rattle.std.proofs.lemmas.Nat.{and_mask, one_shl, pow-add, pow_pos, div-add-mod', shr_split, mod_below, mod-mul-add, div-mul-add, and_le_l, and_block}
use Rattle.std.proofs.lemmas.Bool.{cases_Bool, cases_lt, eq-eqb, ne_eqb, eqb-true, eqb-false, le-leb, lt-leb, and_parts, and_from}
use Rattle.lanes.specs.Words.{is_packed_word, rep, mask_of}
use Rattle.lanes.specs.Product.{rep_top, below_fits}

-- n lanes of s bits
pub pow_lanes : (s n : ℕ) → 2 ^ (s * n) ≡ (2 ^ s) ^ n
pow_lanes s zero = ap (λ (m : ℕ). 2 ^ m) (mul-zero s) ∙ sym (pow-zero (2 ^ s))
pow_lanes s (suc n) =
    ap (λ (m : ℕ). 2 ^ m) (mul-suc s n) ∙ pow-add 2 (s * n) s ∙ ap (λ (m : ℕ). m * 2 ^ s) (pow_lanes s n) ∙ sym (pow-suc (2 ^ s) n)

-- ---- the low bits, as u32 computes their mask

pub mask_low : (n k : ℕ) → k ≤ 16 → bit_and n ((1 * 2 ^ k) % 4294967296 - 1) ≡ n % 2 ^ k
mask_low n k h =
    let h' : k < 32 = omega arith in
    let e : (1 * 2 ^ k) % 4294967296 ≡ 2 ^ k = one_shl k 32 h' in
    ap (λ (m : ℕ). bit_and n (m - 1)) e ∙ and_mask n k

-- ---- the test of a word by its mask

-- a test of two parts is the test of both
same_parts : (x y p q b : ℕ) → q < b → y < b → x * b + y ≡ p * b + q → (y ≡ q) × (x ≡ p)
same_parts x y p q b hq hy e = (
  sym (mod-mul-add x b y hy) ∙ ap (λ (z : ℕ). z % b) e ∙ mod-mul-add p b q hq,
  sym (div-mul-add x b y hy) ∙ ap (λ (z : ℕ). z / b) e ∙ div-mul-add p b q hq,
)

both_parts : (x y p q b : ℕ) → q < b → y < b → (x * b + y == p * b + q) ≡ (y == q && x == p)
both_parts x y p q b hq hy =
    elim (cases_Bool (x * b + y == p * b + q)) [
      | inl e ↦ (let k = same_parts x y p q b hq hy (eqb-true _ _ e) in
          e ∙ sym (and_from (y == q) (x == p) (eq-eqb y q k.0) (eq-eqb x p k.1)))
      | inr e ↦ (elim (cases_Bool (y == q && x == p)) [
        | inl f ↦ (let k = and_parts (y == q) (x == p) f in
            let ey : y ≡ q = eqb-true y q k.0 in
            let ex : x * b ≡ p * b = ap (λ (z : ℕ). z * b) (eqb-true x p k.1) in
            absurd (eqb-false (x * b + y) (p * b + q) e (omega arith)))
        | inr f ↦ e ∙ sym f
      ])
    ]

mod_test : (v x : ℕ) → (v % 2 ^ x == v) ≡ nat_le v (2 ^ x - 1)
mod_test v x =
    let p : 0 < 2 ^ x = pow_pos x in
    elim (cases_lt v (2 ^ x)) [
      | inl l ↦ (let k : v ≤ 2 ^ x - 1 = omega arith in eq-eqb (v % 2 ^ x) v (mod-eq_of_lt l) ∙ sym (le-leb v (2 ^ x - 1) k))
      | inr g ↦ (let k : 2 ^ x - 1 < v = omega arith in
          let m : v % 2 ^ x < 2 ^ x = mod_below v (2 ^ x) p in
          ne_eqb (v % 2 ^ x) v (λ e. omega arith) ∙ sym (lt-leb v (2 ^ x - 1) k))
    ]

pub top_below : (s x : ℕ) → x ≤ s → 2 ^ x - 1 < 2 ^ s
top_below s x h =
    let m : 2 ^ x ≤ 2 ^ s = pow_mono h in
    omega (arith, pow_pos x)

mask_word : (s x n w : ℕ) → x ≤ s → (bit_and w (mask_of s n x) == w) ≡ is_packed_word (2 ^ s) n (2 ^ x - 1) w
mask_word s x zero w h =
    let e : mask_of s 0 x ≡ 0 = omega arith in
    ap (λ (m : ℕ). nat_eq (bit_and w m) w) e ∙ ap (λ (m : ℕ). nat_eq m w) (and_zero_r w) ∙ grind arith
mask_word s x (suc n) w h =
    let b : ℕ = 2 ^ s in
    let t : ℕ = 2 ^ x - 1 in
    let m : ℕ = mask_of s n x in
    let tb : t < b = top_below s x h in
    let p : 0 < b = pow_pos s in
    let r : w % b < b = mod_below w b p in
    let em : mask_of s (suc n) x ≡ m * b + t = omega arith in
    let ew : w / b * b + w % b ≡ w = shr_split w s in
    let cut : bit_and (w % b) t ≡ w % b % 2 ^ x = and_mask (w % b) x in
    let small : w % b % 2 ^ x < b = omega (arith, mod-le (w % b) (2 ^ x)) in
    let a : bit_and w (mask_of s (suc n) x) ≡ bit_and (w / b) m * b + w % b % 2 ^ x =
    ap (λ (z : ℕ). bit_and z (mask_of s (suc n) x)) (sym ew) ∙ ap (bit_and (w / b * b + w % b)) em ∙ and_block s (w / b) m (w % b) t r tb
    ∙ ap (λ (z : ℕ). bit_and (w / b) m * b + z) cut in
    ap (λ (z : ℕ). nat_eq z w) a ∙ ap (nat_eq (bit_and (w / b) m * b + w % b % 2 ^ x)) (sym ew)
    ∙ both_parts (bit_and (w / b) m) (w % b % 2 ^ x) (w / b) (w % b) b r small
    ∙ ap (λ (z : Bool). z && bit_and (w / b) m == w / b) (mod_test (w % b) x)
    ∙ ap (λ (z : Bool). nat_le (w % b) t && z) (mask_word s x n (w / b) h)

-- ---- a mask fits 16 bits

pub mask_fits : (s x n : ℕ) → x ≤ s → s * n + x ≤ 16 → mask_of s (suc n) x < 65536
mask_fits s x n h k =
    let b : ℕ = 2 ^ s in
    let t : ℕ = 2 ^ x - 1 in
    let u : t * rep b n < b ^ n = below_fits b n t (top_below s x h) in
    let e : t * rep b (suc n) ≡ t * (b ^ n + rep b n) = ap (λ (z : ℕ). t * z) (rep_top b n) in
    let p : 2 ^ x ≡ t + 1 = omega (arith, pow_pos x) in
    let q : 2 ^ x * b ^ n ≡ (t + 1) * b ^ n = ap (λ (z : ℕ). z * b ^ n) p in
    let l : 2 ^ (s * n) ≡ b ^ n = pow_lanes s n in
    let f : 2 ^ (s * n + x) ≡ b ^ n * 2 ^ x = pow-add 2 (s * n) x ∙ ap (λ (z : ℕ). z * 2 ^ x) l in
    let g : 2 ^ (s * n + x) ≤ 2 ^ 16 = pow_mono k in
    omega arith

pub mask_fits_depth : (s x d : ℕ) → 1 ≤ d → x ≤ s → s * (d - 1) + x ≤ 16 → mask_of s d x < 65536
mask_fits_depth s x zero hd h k = absurd (omega arith)
mask_fits_depth s x (suc n) hd h k =
    let e : suc n - 1 ≡ n = omega arith in
    mask_fits s x n h (subst (λ (m : ℕ). s * m + x ≤ 16) e k)

-- the mask of the first lanes, and one turn of the loop that makes it
pub mask_fits_part : (s x d i : ℕ) → x ≤ s → s * (d - 1) + x ≤ 16 → i ≤ d → mask_of s i x < 65536
mask_fits_part s x d zero h k l = omega arith
mask_fits_part s x d (suc i) h k l =
    let m : i ≤ d - 1 = omega arith in
    let n : s * i ≤ s * (d - 1) = mul-le-mul_left s m in
    mask_fits s x i h (omega arith)

pub record Turn (s x i mask high : ℕ) : Type 0 where
  pub next : (mask * 2 ^ s) % 4294967296 + high ≡ mask_of s (i + 1) x
  pub small : (mask * 2 ^ s) % 4294967296 + high < 65536

pub mask_turn : (s x d i mask : ℕ) → x ≤ 8 → x ≤ s → s * (d - 1) + x ≤ 16 → i < d → mask ≡ mask_of s i x → Turn s x i mask ((1 * 2 ^ x) % 4294967296 - 1)
mask_turn s x d i mask x8 h k l e =
    let x32 : x < 32 = omega arith in
    let top : (1 * 2 ^ x) % 4294967296 ≡ 2 ^ x = one_shl x 32 x32 in
    let t : (1 * 2 ^ x) % 4294967296 - 1 ≡ 2 ^ x - 1 = ap (λ (z : ℕ). z - 1) top in
    let l' : i + 1 ≤ d = omega arith in
    let small : mask_of s (i + 1) x < 65536 = mask_fits_part s x d (i + 1) h k l' in
    let step : mask_of s (i + 1) x ≡ mask_of s i x * 2 ^ s + (2 ^ x - 1) = rw add-one (omega arith) in
    let em : mask * 2 ^ s ≡ mask_of s i x * 2 ^ s = ap (λ (z : ℕ). z * 2 ^ s) e in
    let low : mask * 2 ^ s < 4294967296 = omega arith in
    let whole : (mask * 2 ^ s) % 4294967296 ≡ mask * 2 ^ s = mod-eq_of_lt low in
    record { next = omega arith; small = omega arith }

-- ---- no bit outside a mask

bit_split : (a b : ℕ) → a < 2 → b < 2 → min a (1 - b) + min a b ≡ a
bit_split zero b h k = omega arith
bit_split (suc zero) zero h k = refl
bit_split (suc zero) (suc zero) h k = refl
bit_split (suc zero) (suc (suc b)) h k = absurd (omega arith)
bit_split (suc (suc a)) b h k = absurd (omega arith)

-- the bits of a word within a mask and those outside it
parts_of_word : (k w m : ℕ) → w < 2 ^ k → m < 2 ^ k → bit_and w (2 ^ k - 1 - m) + bit_and w m ≡ w
parts_of_word zero w m hw hm = omega (arith, and_le_l w (2 ^ zero - 1 - m), and_le_l w m)
parts_of_word (suc k) w m hw hm =
    let n : ℕ = 2 ^ suc k - 1 - m in
    let p : 2 ^ suc k ≡ 2 ^ k * 2 = pow-suc 2 k in
    let mb : m % 2 < 2 = mod_below m 2 (omega arith) in
    let wb : w % 2 < 2 = mod_below w 2 (omega arith) in
    let ms : m / 2 * 2 + m % 2 ≡ m = div-add-mod' m 2 in
    let ws : w / 2 * 2 + w % 2 ≡ w = div-add-mod' w 2 in
    let mh : m / 2 < 2 ^ k = omega arith in
    let wh : w / 2 < 2 ^ k = omega arith in
    let nb : 1 - m % 2 < 2 = omega arith in
    let ns : n ≡ (2 ^ k - 1 - m / 2) * 2 + (1 - m % 2) = omega arith in
    let nd : n / 2 ≡ 2 ^ k - 1 - m / 2 = ap (λ (z : ℕ). z / 2) ns ∙ div-mul-add (2 ^ k - 1 - m / 2) 2 (1 - m % 2) nb in
    let nm : n % 2 ≡ 1 - m % 2 = ap (λ (z : ℕ). z % 2) ns ∙ mod-mul-add (2 ^ k - 1 - m / 2) 2 (1 - m % 2) nb in
    let outside : bit_and w n ≡ bit_and (w / 2) (2 ^ k - 1 - m / 2) * 2 + min (w % 2) (1 - m % 2) =
    and_step w n ∙ ap (λ (z : ℕ). bit_and (w / 2) z * 2 + min (w % 2) (n % 2)) nd ∙ ap (λ (z : ℕ). bit_and (w / 2) (2 ^ k - 1 - m / 2) * 2 + min (w % 2) z) nm in
    let inside : bit_and w m ≡ bit_and (w / 2) (m / 2) * 2 + min (w % 2) (m % 2) = and_step w m in
    let rest = parts_of_word k (w / 2) (m / 2) wh mh in
    let bit = bit_split (w % 2) (m % 2) wb mb in
    omega arith

same_test : (a b w : ℕ) → a + b ≡ w → (a == 0) ≡ (b == w)
same_test a b w e = grind arith

pub mask_test : (s x n w : ℕ) → x ≤ s → w < 65536 → mask_of s n x < 65536 → (bit_and w (65535 - mask_of s n x) == 0) ≡ is_packed_word (2 ^ s) n (2 ^ x - 1) w
mask_test s x n w h hw hm =
    let m : ℕ = mask_of s n x in
    let e : bit_and w (65535 - mask_of s n x) + bit_and w (mask_of s n x) ≡ w = parts_of_word 16 w (mask_of s n x) hw hm in
    same_test (bit_and w (65535 - m)) (bit_and w m) w e ∙ mask_word s x n w h
