-- Products of signed numbers over sums, and products and sums that wrap.
use Rattle.std.proofs.Common.{◌≡◌, ℕ, zero, suc, ◌+◌, ◌-◌, ◌*◌, ◌%◌, ◌^◌, ◌<◌, ℤ, pos, negsuc, ◌+ℤ◌, ◌-ℤ◌, ◌*ℤ◌, neg_ℤ, sym, ap, ◌∙◌, mod-lt, arith, lit<, w16, w64, SFits, to_z, of_z}
use lib.IntN.{zero-*ℤ, *ℤ_comm, suc_ℤ-*ℤ, pred_ℤ-*ℤ, *ℤ-zero}
use mir.ValLaws.{of_z_fits}
use Rattle.std.specs.Int.{int_wrap}
use Rattle.std.proofs.lemmas.Int.{ints, to_z-of_z, wrapping_mul_is, wrapping_sub-bits, int_wrap-sub_right, wrapping_mul-bits, wrapping_add-bits, to_z_pos, int_wrap-mul_right, int_wrap-add_right, int_wrap-add_left}

pub over_sum : (m a b : ℤ) → m *ℤ (a +ℤ b) ≡ (m *ℤ a) +ℤ (m *ℤ b)
over_sum (pos zero) a b = zero-*ℤ (a +ℤ b) ∙ sym (ap (λ (y : ℤ). y +ℤ (pos 0 *ℤ b)) (zero-*ℤ a) ∙ ap (λ (y : ℤ). pos 0 +ℤ y) (zero-*ℤ b))
over_sum (pos (suc n)) a b = omega (arith, ints, suc_ℤ-*ℤ (pos n) (a +ℤ b), suc_ℤ-*ℤ (pos n) a, suc_ℤ-*ℤ (pos n) b, over_sum (pos n) a b)
over_sum (negsuc zero) a b = omega (arith, ints, pred_ℤ-*ℤ (pos 0) (a +ℤ b), pred_ℤ-*ℤ (pos 0) a, pred_ℤ-*ℤ (pos 0) b, zero-*ℤ (a +ℤ b), zero-*ℤ a, zero-*ℤ b)
over_sum (negsuc (suc n)) a b = omega (arith, ints, pred_ℤ-*ℤ (negsuc n) (a +ℤ b), pred_ℤ-*ℤ (negsuc n) a, pred_ℤ-*ℤ (negsuc n) b, over_sum (negsuc n) a b)

pub sum_over : (a b m : ℤ) → (a +ℤ b) *ℤ m ≡ (a *ℤ m) +ℤ (b *ℤ m)
sum_over a b m = *ℤ_comm (a +ℤ b) m ∙ over_sum m a b ∙ ap (λ (y : ℤ). y +ℤ (m *ℤ b)) (*ℤ_comm m a) ∙ ap (λ (y : ℤ). (a *ℤ m) +ℤ y) (*ℤ_comm m b)

pub over_neg : (m a : ℤ) → m *ℤ neg_ℤ a ≡ neg_ℤ (m *ℤ a)
over_neg m a =
    let z : a +ℤ neg_ℤ a ≡ pos 0 = omega (arith, ints) in
    let e : (m *ℤ a) +ℤ (m *ℤ neg_ℤ a) ≡ pos 0 = sym (over_sum m a (neg_ℤ a)) ∙ ap (λ (y : ℤ). m *ℤ y) z ∙ *ℤ-zero m in
    omega (arith, ints, e)

pub neg_over : (m a : ℤ) → neg_ℤ m *ℤ a ≡ neg_ℤ (m *ℤ a)
neg_over m a = *ℤ_comm (neg_ℤ m) a ∙ over_neg a m ∙ ap neg_ℤ (*ℤ_comm a m)

lin_out : (p q r t : ℤ) → (p +ℤ neg_ℤ q) +ℤ (neg_ℤ r +ℤ neg_ℤ (neg_ℤ t)) ≡ ((p -ℤ q) -ℤ r) +ℤ t
lin_out p q r t = omega (arith, ints)

-- (w - z) * (a - y) multiplied out
pub out : (w z a y : ℤ) → (w -ℤ z) *ℤ (a -ℤ y) ≡ (((w *ℤ a) -ℤ (y *ℤ w)) -ℤ (z *ℤ a)) +ℤ (z *ℤ y)
out w z a y =
    let e₁ : w *ℤ (a -ℤ y) ≡ (w *ℤ a) +ℤ neg_ℤ (y *ℤ w) = over_sum w a (neg_ℤ y) ∙ ap (λ (x : ℤ). (w *ℤ a) +ℤ x) (over_neg w y ∙ ap neg_ℤ (*ℤ_comm w y)) in
    let e₂ : neg_ℤ z *ℤ (a -ℤ y) ≡ neg_ℤ (z *ℤ a) +ℤ neg_ℤ (neg_ℤ (z *ℤ y)) =
    over_sum (neg_ℤ z) a (neg_ℤ y) ∙ ap (λ (x : ℤ). x +ℤ (neg_ℤ z *ℤ neg_ℤ y)) (neg_over z a) ∙ ap (λ (x : ℤ). neg_ℤ (z *ℤ a) +ℤ x) (over_neg (neg_ℤ z) y ∙ ap neg_ℤ (neg_over z y)) in
    sum_over w (neg_ℤ z) (a -ℤ y) ∙ ap (λ (x : ℤ). x +ℤ (neg_ℤ z *ℤ (a -ℤ y))) e₁ ∙ ap (λ (x : ℤ). ((w *ℤ a) +ℤ neg_ℤ (y *ℤ w)) +ℤ x) e₂ ∙ lin_out (w *ℤ a) (y *ℤ w) (z *ℤ a) (z *ℤ y)

pub lin_more : (p q r t P Q R N : ℤ) → (((p +ℤ P) -ℤ (q +ℤ Q)) -ℤ (r +ℤ R)) +ℤ (N +ℤ t) ≡ (((p -ℤ q) -ℤ r) +ℤ t) +ℤ (((P -ℤ Q) -ℤ R) +ℤ N)
lin_more p q r t P Q R N = omega (arith, ints)

widen : (z : ℤ) → SFits w16 z → SFits w64 z
widen (pos n) h = record { sfits = omega (arith, h.sfits) }
widen (negsuc n) h = record { sfits = omega (arith, h.sfits) }

-- a product that wraps, taken from a number by a difference that wraps
pub less_wrapped : (a z b : ℤ) → SFits w64 a → SFits w64 b → SFits w16 z
    → to_z w64 ((of_z w64 a + (18446744073709551616 - (of_z w64 (to_z w16 (of_z w16 z)) * of_z w64 b) % 18446744073709551616)) % 18446744073709551616) ≡ int_wrap w64 (a -ℤ (z *ℤ b))
less_wrapped a z b fa fb fz =
    let same = to_z-of_z w16 z fz in
    let n = (of_z w64 z * of_z w64 b) % 18446744073709551616 in
    let m = wrapping_mul_is w64 z b (widen z fz) fb in
    ap (λ (y : ℤ). to_z w64 ((of_z w64 a + (18446744073709551616 - (of_z w64 y * of_z w64 b) % 18446744073709551616)) % 18446744073709551616)) same
    ∙ wrapping_sub-bits w64 (of_z w64 a) n (of_z_fits w64 a fa).fits (mod-lt (of_z w64 z * of_z w64 b) (lit< tt))
    ∙ ap (λ (y : ℤ). int_wrap w64 (y -ℤ to_z w64 n)) (to_z-of_z w64 a fa)
    ∙ ap (λ (y : ℤ). int_wrap w64 (a -ℤ y)) m
    ∙ int_wrap-sub_right w64 a (z *ℤ b)

-- a product of three that wraps, added to a number by a sum that wraps
pub plus_wrapped : (l : ℤ) (n : ℕ) (z y : ℤ) → SFits w64 l → n < 2 ^ 63 → SFits w16 z → SFits w16 y
    → to_z w64 ((of_z w64 l + (n * ((of_z w64 (to_z w16 (of_z w16 z)) * of_z w64 (to_z w16 (of_z w16 y))) % 18446744073709551616)) % 18446744073709551616) % 18446744073709551616) ≡ int_wrap w64 (l +ℤ (pos n *ℤ (z *ℤ y)))
plus_wrapped l n z y fl small fz fy =
    let b = (of_z w64 z * of_z w64 y) % 18446744073709551616 in
    let m : to_z w64 b ≡ int_wrap w64 (z *ℤ y) = wrapping_mul_is w64 z y (widen z fz) (widen y fy) in
    let bl : b < 18446744073709551616 = mod-lt (of_z w64 z * of_z w64 y) (lit< tt) in
    let nl : n < 18446744073709551616 = omega arith in
    let p = (n * b) % 18446744073709551616 in
    let pl : p < 18446744073709551616 = mod-lt (n * b) (lit< tt) in
    let k : to_z w64 p ≡ int_wrap w64 (pos n *ℤ (z *ℤ y)) = wrapping_mul-bits w64 n b nl bl ∙ ap (λ (x : ℤ). int_wrap w64 (x *ℤ to_z w64 b)) (to_z_pos w64 n small) ∙ ap (λ (x : ℤ). int_wrap w64 (pos n *ℤ x)) m ∙ int_wrap-mul_right w64 (pos n) (z *ℤ y) in
    ap (λ (x : ℤ). to_z w64 ((of_z w64 l + (n * ((of_z w64 x * of_z w64 (to_z w16 (of_z w16 y))) % 18446744073709551616)) % 18446744073709551616) % 18446744073709551616)) (to_z-of_z w16 z fz)
    ∙ ap (λ (x : ℤ). to_z w64 ((of_z w64 l + (n * ((of_z w64 z * of_z w64 x) % 18446744073709551616)) % 18446744073709551616) % 18446744073709551616)) (to_z-of_z w16 y fy)
    ∙ wrapping_add-bits w64 (of_z w64 l) p (of_z_fits w64 l fl).fits pl
    ∙ ap (λ (x : ℤ). int_wrap w64 (x +ℤ to_z w64 p)) (to_z-of_z w64 l fl)
    ∙ ap (λ (x : ℤ). int_wrap w64 (l +ℤ x)) k
    ∙ int_wrap-add_right w64 l (pos n *ℤ (z *ℤ y))

-- three wraps in a row are one
pub wraps_once : (p q r t x l : ℤ) → x ≡ int_wrap w64 (p -ℤ q) → l ≡ int_wrap w64 (x -ℤ r) → int_wrap w64 (l +ℤ t) ≡ int_wrap w64 (((p -ℤ q) -ℤ r) +ℤ t)
wraps_once p q r t x l e h =
    ap (λ (y : ℤ). int_wrap w64 (y +ℤ t)) (h ∙ ap (λ (y : ℤ). int_wrap w64 (y -ℤ r)) e ∙ int_wrap-add_left w64 (p -ℤ q) (neg_ℤ r)) ∙ int_wrap-add_left w64 ((p -ℤ q) -ℤ r) t

-- arguments that were passed are the numbers that they were
pub passed : (x a z b : ℤ) → SFits w64 a → SFits w16 z → SFits w64 b
    → x ≡ int_wrap w64 (to_z w64 (of_z w64 a) -ℤ (to_z w16 (of_z w16 z) *ℤ to_z w64 (of_z w64 b))) → x ≡ int_wrap w64 (a -ℤ (z *ℤ b))
passed x a z b fa fz fb e =
    e ∙ ap (λ (y : ℤ). int_wrap w64 (y -ℤ (to_z w16 (of_z w16 z) *ℤ to_z w64 (of_z w64 b)))) (to_z-of_z w64 a fa)
    ∙ ap (λ (y : ℤ). int_wrap w64 (a -ℤ (y *ℤ to_z w64 (of_z w64 b)))) (to_z-of_z w16 z fz)
    ∙ ap (λ (y : ℤ). int_wrap w64 (a -ℤ (z *ℤ y))) (to_z-of_z w64 b fb)
