-- The loops over the words and the codes of a group.
use Rattle.std.proofs.Common.{◌≡◌, ℕ, ◌+◌, ◌*◌, ◌^◌, ◌<◌, ◌≤◌, List, [], ◌∷◌, ◌++◌, length, get_or, take, drop, set, sym, ap, ◌∙◌, pow-suc, add-one, arith}
use lib.Lanes.{Each1}
use Rattle.std.proofs.lemmas.List.{at_drop_more, at_drop_all, take_more_set}
use Rattle.planes.specs.Planes.{bit_at, plane, planes_from}
use Rattle.planes.specs.Sums.{ones_shared, shared_from, plane_sum_from, plane_sum}
use Rattle.planes.specs.Transposed.{plane_fits, planes_more}
use Rattle.planes.proofs.SharedOnes.{shared_small, sum_small}

-- ---- one plane, bit after bit

-- p = 2^k, q = 2^(k + 1)
add_bit : (p q b n d whole number : ℕ) → q ≡ p * 2 → d ≡ b + 2 * n → number + p * d ≡ whole → number + b * p + q * n ≡ whole
add_bit p q b n d whole number e f h =
    let k : p * d ≡ p * (b + 2 * n) = ap (λ (z : ℕ). p * z) f in
    let m : q * n ≡ p * 2 * n = ap (λ (z : ℕ). z * n) e in
    omega arith

-- one turn: bit k of plane i, which is bit i of number k
pub record BitTurn (i k : ℕ) (ns : List ℕ) (number add : ℕ) : Type 0 where
  pub next : number + add + 2 ^ (k + 1) * plane i (drop (k + 1) ns) ≡ plane i ns
  pub fits : number + add < 2 ^ 16

pub bit_turn : (i k : ℕ) (ns : List ℕ) (number add : ℕ) → length ns ≤ 16 → k < length ns → add ≡ bit_at i (get_or ns k 0) * 2 ^ k
    → number + 2 ^ k * plane i (drop k ns) ≡ plane i ns → BitTurn i k ns number add
bit_turn i k ns number add few lt is inv =
    let p : 2 ^ (k + 1) ≡ 2 ^ k * 2 = ap (λ (z : ℕ). 2 ^ z) (add-one k) ∙ pow-suc 2 k in
    let d : plane i (drop k ns) ≡ bit_at i (get_or ns k 0) + 2 * plane i (drop (k + 1) ns) = at_drop_more (plane i) ns k 0 lt in
    let whole : number + bit_at i (get_or ns k 0) * 2 ^ k + 2 ^ (k + 1) * plane i (drop (k + 1) ns) ≡ plane i ns =
    add_bit (2 ^ k) (2 ^ (k + 1)) (bit_at i (get_or ns k 0)) (plane i (drop (k + 1) ns)) (plane i (drop k ns)) (plane i ns) number p d inv in
    let next : number + add + 2 ^ (k + 1) * plane i (drop (k + 1) ns) ≡ plane i ns = omega arith in
    record { next = next; fits = omega (arith, plane_fits i 16 ns few) }

pub bits_all : (i k : ℕ) (ns : List ℕ) (number : ℕ) → length ns ≤ k → number + 2 ^ k * plane i (drop k ns) ≡ plane i ns → number ≡ plane i ns
bits_all i k ns number le inv =
    let none : 2 ^ k * plane i (drop k ns) ≡ 2 ^ k * 0 = ap (λ (z : ℕ). 2 ^ k * z) (at_drop_all (plane i) ns k le) in
    omega arith

-- ---- all planes, one after another

pub write_turn : (k word : ℕ) (words ns : List ℕ) → k < length words → word ≡ plane k ns → take k words ≡ planes_from 0 k ns
    → take (k + 1) (set words k word) ≡ planes_from 0 (k + 1) ns
write_turn k word words ns lt is inv =
    let z : 0 + k ≡ k = omega arith in
    take_more_set words k word lt ∙ ap (λ (ws : List ℕ). ws ++ word ∷ []) inv ∙ ap (λ (w : ℕ). planes_from 0 k ns ++ w ∷ []) (is ∙ ap (λ (i : ℕ). plane i ns) (sym z)) ∙ sym (planes_more 0 k ns)

-- ---- the sum over planes

pub record SumTurn (sum whole rest add : ℕ) : Type 0 where
  pub next : sum + add + rest ≡ whole
  pub fits : sum + add < 2 ^ 32

pub shared_turn : (k m w sum add : ℕ) (ys : List ℕ) → k < 8 → length ys ≤ 8 → w < 2 ^ 16 → m < length ys → add ≡ ones_shared w (get_or ys m 0) * 2 ^ (k + m)
    → sum + shared_from k m w (drop m ys) ≡ shared_from k 0 w ys → SumTurn sum (shared_from k 0 w ys) (shared_from k (m + 1) w (drop (m + 1) ys)) add
shared_turn k m w sum add ys hk few hw lt is inv =
    let d : shared_from k m w (drop m ys) ≡ ones_shared w (get_or ys m 0) * 2 ^ (k + m) + shared_from k (m + 1) w (drop (m + 1) ys) = at_drop_more (shared_from k m w) ys m 0 lt in
    let e : 0 + length ys ≤ 8 = omega arith in
    let small = shared_small k 0 w ys hk e hw in
    record { next = omega arith; fits = omega arith }

pub shared_all : (k m w sum : ℕ) (ys : List ℕ) → length ys ≤ m → sum + shared_from k m w (drop m ys) ≡ shared_from k 0 w ys → sum ≡ shared_from k 0 w ys
shared_all k m w sum ys le inv =
    let none : shared_from k m w (drop m ys) ≡ 0 = at_drop_all (shared_from k m w) ys m le in
    omega arith

pub sum_turn : (k sum add : ℕ) (ws ys : List ℕ) → length ws ≤ 8 → length ys ≤ 8 → Each1 (λ w. w < 2 ^ 16) ws → k < length ws → add ≡ shared_from k 0 (get_or ws k 0) ys
    → sum + plane_sum_from k (drop k ws) ys ≡ plane_sum ws ys → SumTurn sum (plane_sum ws ys) (plane_sum_from (k + 1) (drop (k + 1) ws) ys) add
sum_turn k sum add ws ys fw fy words lt is inv =
    let d : plane_sum_from k (drop k ws) ys ≡ shared_from k 0 (get_or ws k 0) ys + plane_sum_from (k + 1) (drop (k + 1) ws) ys = at_drop_more (λ z. plane_sum_from k z ys) ws k 0 lt in
    let e : 0 + length ws ≤ 8 = omega arith in
    let small = sum_small 0 ws ys e fy words in
    record { next = omega arith; fits = omega arith }

pub sum_all : (k sum : ℕ) (ws ys : List ℕ) → length ws ≤ k → sum + plane_sum_from k (drop k ws) ys ≡ plane_sum ws ys → sum ≡ plane_sum ws ys
sum_all k sum ws ys le inv =
    let none : plane_sum_from k (drop k ws) ys ≡ 0 = at_drop_all (λ z. plane_sum_from k z ys) ws k le in
    omega arith
