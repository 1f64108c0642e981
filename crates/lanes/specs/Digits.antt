-- Words and their lanes.
use Rattle.std.specs.Prelude.{◌≡◌, ℕ, zero, suc, ◌+◌, ◌-◌, ◌*◌, ◌/◌, ◌%◌, ◌^◌, ◌<◌, ◌≤◌, true, leb, List, [], ◌∷◌, reverse, length, nat_le, refl}
use Rattle.std.proofs.Common.{sym, ap, subst, ◌∙◌, pow-suc, mul-le-mul_right, arith}
use mathlib.Core.List.{reverse_aux}
use Rattle.std.proofs.Math.Nat.{pow-zero, div-add-mod, one-le-pow, eq_of_mul-eq-mul_left}
use Rattle.std.proofs.lemmas.List.{length-reverse}
use Rattle.std.specs.Simd.Lanes.{number_l, digits_l, Each1}
use Rattle.std.proofs.lemmas.Nat.{pow_pos, pow-add}
use Rattle.std.proofs.lemmas.Bool.{and_parts}
use Rattle.kernels.proofs.Naturals.{dot_n, dot_most}
use Rattle.lanes.specs.Words.{is_packed_word, rep}
use Rattle.lanes.specs.Product.{lane_at, under_lane, high_n, low, up, times, low_le, below_fits, step_acc}
use Rattle.lanes.specs.Masks.{pow_lanes}

pub length_digits : (b n w : ℕ) → length (digits_l b n w) ≡ n
length_digits b zero w = refl
length_digits b (suc n) w = ap suc (length_digits b n (w / b))

pub word_number : (b n high w : ℕ) → is_packed_word b n high w ≡ true → number_l b (digits_l b n w) ≡ w
word_number b zero high w h = grind arith
word_number b (suc n) high w h =
    let ih : number_l b (digits_l b n (w / b)) ≡ w / b = word_number b n high (w / b) (and_parts (nat_le (w % b) high) _ h).1 in
    let k : b * number_l b (digits_l b n (w / b)) ≡ b * (w / b) = ap (λ (x : ℕ). b * x) ih in
    omega (arith, div-add-mod w b)

pub word_each : (b n high w : ℕ) → is_packed_word b n high w ≡ true → Each1 (λ c. c ≤ high) (digits_l b n w)
word_each b zero high w h = tt
word_each b (suc n) high w h =
    let l : leb (w % b) high ≡ true = (and_parts (nat_le (w % b) high) _ h).0 in
    let k : w % b ≤ high = grind arith in
    (k, word_each b n high (w / b) (and_parts (nat_le (w % b) high) _ h).1)

each_back : (P : ℕ → Type 0) (xs r : List ℕ) → Each1 P xs → Each1 P r → Each1 P (reverse_aux xs r)
each_back P [] r hs hr = hr
each_back P (x ∷ xs) r (h, hs) hr = each_back P xs (x ∷ r) hs (h, hr)

pub each_reverse : (P : ℕ → Type 0) (xs : List ℕ) → Each1 P xs → Each1 P (reverse xs)
each_reverse P xs h = each_back P xs [] h tt

high_back : (b : ℕ) (xs r : List ℕ) → high_n b (reverse_aux xs r) ≡ number_l b xs * b ^ length r + high_n b r
high_back b [] r = omega arith
high_back b (x ∷ xs) r =
    let e : b ^ suc (length r) ≡ b ^ length r * b = pow-suc b (length r) in
    let k : number_l b xs * b ^ suc (length r) ≡ number_l b xs * (b ^ length r * b) = ap (λ (z : ℕ). number_l b xs * z) e in
    high_back b xs (x ∷ r) ∙ omega arith

pub high_reverse : (b : ℕ) (xs : List ℕ) → high_n b (reverse xs) ≡ number_l b xs
high_reverse b xs = high_back b xs [] ∙ rw pow-zero (omega arith)

-- the product of two words of n lanes and one more, and the bounds of its parts
pub record Parts (b n p q w a : ℕ) (d : ℕ) : Type 0 where
  pub above : ℕ
  pub below : ℕ
  pub sum : w * a ≡ above * (b ^ n * b) + d * b ^ n + below
  pub below_small : below ≤ suc n * (p * q) * rep b n
  pub lane_small : d ≤ suc n * (p * q)

cancel : (b q qb u d l x : ℕ) → 0 < b → qb ≡ q * b → b * x ≡ u * (qb * b) + d * qb + b * l → x ≡ u * (q * b) + d * q + l
cancel b q qb u d l x hb e h =
    let k : u * (qb * b) ≡ u * (q * b * b) = ap (λ (z : ℕ). u * (z * b)) e in
    let k' : d * qb ≡ d * (q * b) = ap (λ (z : ℕ). d * z) e in
    let m : b * x ≡ b * (u * (q * b) + d * q + l) = omega arith in
    eq_of_mul-eq-mul_left b hb x (u * (q * b) + d * q + l) m

parts_cons : (b p q w y : ℕ) (ws ys : List ℕ) → 0 < b → length ws ≡ length ys → Each1 (λ c. c ≤ p) (w ∷ ws) → Each1 (λ c. c ≤ q) (y ∷ ys)
    → Parts b (length ws) p q (high_n b (w ∷ ws)) (number_l b (y ∷ ys)) (dot_n (w ∷ ws) (y ∷ ys))
parts_cons b p q w y ws ys hb e hs ks =
    let e' : length (w ∷ ws) ≡ length (y ∷ ys) = ap suc e in
    record {
      above = up b (w ∷ ws) (y ∷ ys);
      below = low b (w ∷ ws) (y ∷ ys);
      sum = cancel b (b ^ length ws) (b ^ suc (length ws)) (up b (w ∷ ws) (y ∷ ys)) (dot_n (w ∷ ws) (y ∷ ys)) (low b (w ∷ ws) (y ∷ ys)) (high_n b (w ∷ ws) * number_l b (y ∷ ys)) hb (pow-suc b (length ws)) (times b (w ∷ ws) (y ∷ ys) e');
      below_small = low_le b p q w y ws ys e hs ks;
      lane_small = dot_most p q (w ∷ ws) (y ∷ ys) hs ks;
    }

pub parts_lists : (b n p q : ℕ) (ws ys : List ℕ) → 0 < b → length ws ≡ suc n → length ys ≡ suc n → Each1 (λ c. c ≤ p) ws → Each1 (λ c. c ≤ q) ys
    → Parts b n p q (high_n b ws) (number_l b ys) (dot_n ws ys)
parts_lists b n p q [] ys hb e f hs ks = absurd (omega arith)
parts_lists b n p q (w ∷ ws) [] hb e f hs ks = absurd (omega arith)
parts_lists b n p q (w ∷ ws) (y ∷ ys) hb e f hs ks =
    let e' : length ws ≡ n = omega arith in
    let g : length ws ≡ length ys = omega arith in
    subst (λ (m : ℕ). Parts b m p q (high_n b (w ∷ ws)) (number_l b (y ∷ ys)) (dot_n (w ∷ ws) (y ∷ ys))) e' (parts_cons b p q w y ws ys hb g hs ks)

pub parts_words : (b n p q w a : ℕ) → 0 < b → is_packed_word b (suc n) p w ≡ true → is_packed_word b (suc n) q a ≡ true
    → Parts b n p q w a (dot_n (reverse (digits_l b (suc n) w)) (digits_l b (suc n) a))
parts_words b n p q w a hb hw ha =
    let dw : List ℕ = digits_l b (suc n) w in
    let da : List ℕ = digits_l b (suc n) a in
    let r : Parts b n p q (high_n b (reverse dw)) (number_l b da) (dot_n (reverse dw) da) =
    parts_lists b n p q (reverse dw) da hb (length-reverse dw ∙ length_digits b (suc n) w) (length_digits b (suc n) a)
    (each_reverse (λ c. c ≤ p) dw (word_each b (suc n) p w hw)) (word_each b (suc n) q a ha) in
    let ew : high_n b (reverse dw) ≡ w = high_reverse b dw ∙ word_number b (suc n) p w hw in
    let ea : number_l b da ≡ a = word_number b (suc n) q a ha in
    subst (λ (z : ℕ). Parts b n p q w z (dot_n (reverse dw) da)) ea (subst (λ (z : ℕ). Parts b n p q z (number_l b da) (dot_n (reverse dw) da)) ew r)

-- one step of an accumulator that has made t of at most h steps, each of a group whose sum is at most m
pub record Stepped (b n t m acc acc' d : ℕ) : Type 0 where
  pub lane : lane_at b n acc' ≡ lane_at b n acc + d
  pub lane_le : lane_at b n acc' ≤ (t + 1) * m
  pub below_le : under_lane b n acc' ≤ (t + 1) * m * rep b n

pub core : (b n r h m t acc x u d l : ℕ) → 0 < b → 0 < r → t < h → h * m < b → lane_at b n acc ≤ t * m → under_lane b n acc ≤ t * m * rep b n
    → x ≡ u * (b ^ n * b) + d * b ^ n + l → d ≤ m → l ≤ m * rep b n
    → Stepped b n t m acc ((acc + x % (r * (b ^ n * b))) % (r * (b ^ n * b))) d
core b n r h m t acc x u d l hb hr th hm ha hl e hd hlo =
    let q : 0 < b ^ n = one-le-pow n b hb in
    let k : suc t * m ≤ h * m = mul-le-mul_right m th in
    let f : suc t * m < b = omega arith in
    let g : suc t * m * rep b n < b ^ n = below_fits b n (suc t * m) f in
    let g' : acc % b ^ n + l < b ^ n = omega arith in
    let f' : acc / b ^ n % b + d < b = omega arith in
    let s = step_acc (b ^ n) b r acc x u d l q hb hr e g' f' in
    record { lane = s.0; lane_le = omega (arith, s.0); below_le = omega (arith, s.1) }

word_split : (bits s n : ℕ) → s * n + s ≤ bits → 2 ^ bits ≡ 2 ^ (bits - (s * n + s)) * ((2 ^ s) ^ n * 2 ^ s)
word_split bits s n h =
    let k : ℕ = s * n + s in
    let e : bits - k + k ≡ bits = omega arith in
    ap (λ (z : ℕ). 2 ^ z) (sym e) ∙ pow-add 2 (bits - k) k
    ∙ ap (λ (z : ℕ). 2 ^ (bits - k) * z) (pow-add 2 (s * n) s ∙ ap (λ (z : ℕ). z * 2 ^ s) (pow_lanes s n))

pub parts_depth : (b d p q w a : ℕ) → 0 < b → 1 ≤ d → is_packed_word b d p w ≡ true → is_packed_word b d q a ≡ true
    → Parts b (d - 1) p q w a (dot_n (reverse (digits_l b d w)) (digits_l b d a))
parts_depth b zero p q w a hb hd hw ha = absurd (omega arith)
parts_depth b (suc n) p q w a hb hd hw ha =
    let e : n ≡ suc n - 1 = omega arith in
    subst (λ (m : ℕ). Parts b m p q w a (dot_n (reverse (digits_l b (suc n) w)) (digits_l b (suc n) a))) e (parts_words b n p q w a hb hw ha)

-- one step of an accumulator of so many bits, of which the lanes take at most all
pub step_plain : (bits s d x y h t acc w a : ℕ) → 1 ≤ d → s * d ≤ bits → t < h → h * (d * (x * y)) < 2 ^ s
    → is_packed_word (2 ^ s) d x w ≡ true → is_packed_word (2 ^ s) d y a ≡ true
    → lane_at (2 ^ s) (d - 1) acc ≤ t * (d * (x * y)) → under_lane (2 ^ s) (d - 1) acc ≤ t * (d * (x * y)) * rep (2 ^ s) (d - 1)
    → Stepped (2 ^ s) (d - 1) t (d * (x * y)) acc ((acc + (w * a) % 2 ^ bits) % 2 ^ bits) (dot_n (reverse (digits_l (2 ^ s) d w)) (digits_l (2 ^ s) d a))
step_plain bits s d x y h t acc w a hd hs ht hm hw ha la lb =
    let b : ℕ = 2 ^ s in
    let n : ℕ = d - 1 in
    let dn : d ≡ suc n = omega arith in
    let hb : 0 < b = pow_pos s in
    let q : Parts b n x y w a (dot_n (reverse (digits_l b d w)) (digits_l b d a)) = parts_depth b d x y w a hb hd hw ha in
    let m : d * (x * y) ≡ suc n * (x * y) = ap (λ (z : ℕ). z * (x * y)) dn in
    let mr : d * (x * y) * rep b n ≡ suc n * (x * y) * rep b n = ap (λ (z : ℕ). z * rep b n) m in
    let l1 : dot_n (reverse (digits_l b d w)) (digits_l b d a) ≤ d * (x * y) = omega (arith, q.lane_small, m) in
    let l2 : q.below ≤ d * (x * y) * rep b n = omega (arith, q.below_small, mr) in
    let k : s * n + s ≤ bits = omega (arith, ap (λ (z : ℕ). s * z) dn) in
    let r : ℕ = 2 ^ (bits - (s * n + s)) in
    let hr : 0 < r = pow_pos (bits - (s * n + s)) in
    let res = core b n r h (d * (x * y)) t acc (w * a) q.above (dot_n (reverse (digits_l b d w)) (digits_l b d a)) q.below hb hr ht hm la lb q.sum l1 l2 in
    subst (λ (z : ℕ). Stepped b n t (d * (x * y)) acc ((acc + (w * a) % z) % z) (dot_n (reverse (digits_l b d w)) (digits_l b d a))) (sym (word_split bits s n k)) res
