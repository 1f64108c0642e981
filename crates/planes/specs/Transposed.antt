-- Codes and planes are each other's transposition.
use Rattle.std.specs.Prelude.{◌≡◌, ℕ, zero, suc, ◌+◌, ◌*◌, ◌/◌, ◌%◌, ◌^◌, ◌<◌, ◌≤◌, List, [], ◌∷◌, ◌++◌, map, length, replicate, slice_index, refl}
use Rattle.std.proofs.Common.{sym, ap, ◌∙◌, pow-suc, div-one, add-one, arith, pow_mono}
use Rattle.std.proofs.Math.Nat.{pow-succ', div-div-eq-div-mul}
use Rattle.std.specs.Simd.Lanes.{Each1}
use Rattle.planes.specs.Planes.{bit_at, plane, planes_from}

-- ---- planes by halving

-- the number of the low bits of numbers, and what is left of each
abbrev pub low_bits : List ℕ → ℕ
low_bits [] = 0
low_bits (n ∷ ns) = n % 2 + 2 * low_bits ns

abbrev pub rests : List ℕ → List ℕ
rests ns = map (λ n. n / 2) ns

abbrev pub transposed : (count : ℕ) → List ℕ → List ℕ
transposed zero ns = []
transposed (suc count) ns = low_bits ns ∷ transposed count (rests ns)

plane_low : (ns : List ℕ) → plane 0 ns ≡ low_bits ns
plane_low [] = refl
plane_low (n ∷ ns) =
    let e : bit_at 0 n ≡ n % 2 = ap (λ (z : ℕ). z % 2) (div-one n) in
    omega (arith, plane_low ns)

bit_next : (k n : ℕ) → bit_at (k + 1) n ≡ bit_at k (n / 2)
bit_next k n =
    let e : 2 ^ (k + 1) ≡ 2 * 2 ^ k = ap (λ (z : ℕ). 2 ^ z) (add-one k) ∙ pow-succ' 2 k in
    sym (ap (λ (z : ℕ). z % 2) (div-div-eq-div-mul n 2 (2 ^ k) ∙ ap (λ (z : ℕ). n / z) (sym e)))

plane_next : (k : ℕ) (ns : List ℕ) → plane (k + 1) ns ≡ plane k (rests ns)
plane_next k [] = refl
plane_next k (n ∷ ns) = omega (arith, bit_next k n, plane_next k ns)

planes_next : (k count : ℕ) (ns : List ℕ) → planes_from (k + 1) count ns ≡ planes_from k count (rests ns)
planes_next k zero ns = refl
planes_next k (suc count) ns =
    ap (λ (z : ℕ). z ∷ planes_from (k + 1 + 1) count ns) (plane_next k ns) ∙ ap (λ (z : List ℕ). plane k (rests ns) ∷ z) (planes_next (k + 1) count ns)

pub planes_transposed : (count : ℕ) (ns : List ℕ) → planes_from 0 count ns ≡ transposed count ns
planes_transposed zero ns = refl
planes_transposed (suc count) ns =
    ap (λ (z : ℕ). z ∷ planes_from 1 count ns) (plane_low ns)
    ∙ ap (λ (z : List ℕ). low_bits ns ∷ z) (planes_next 0 count ns ∙ planes_transposed count (rests ns))

-- ---- the transposition of a transposition

halved : (n w : ℕ) → w < 2 ^ suc n → w / 2 < 2 ^ n
halved n w h =
    let e : 2 ^ suc n ≡ 2 ^ n * 2 = pow-suc 2 n in
    omega arith

pub rests_below : (n : ℕ) (ws : List ℕ) → Each1 (λ w. w < 2 ^ suc n) ws → Each1 (λ w. w < 2 ^ n) (rests ws)
rests_below n [] h = tt
rests_below n (w ∷ ws) (h, hs) = (halved n w h, rests_below n ws hs)

low_first : (k c : ℕ) (cs : List ℕ) → c < 2 ^ k → low_bits (transposed k (c ∷ cs)) ≡ c
low_first zero c cs h = omega arith
low_first (suc k) c cs h =
    let next : low_bits (transposed k (c / 2 ∷ rests cs)) ≡ c / 2 = low_first k (c / 2) (rests cs) (halved k c h) in
    omega arith

rests_behind : (k c : ℕ) (cs : List ℕ) → rests (transposed k (c ∷ cs)) ≡ transposed k cs
rests_behind zero c cs = refl
rests_behind (suc k) c cs =
    let rest : (c % 2 + 2 * low_bits cs) / 2 ≡ low_bits cs = omega arith in
    ap (λ (z : ℕ). z ∷ rests (transposed k (c / 2 ∷ rests cs))) rest ∙ ap (λ (z : List ℕ). low_bits cs ∷ z) (rests_behind k (c / 2) (rests cs))

transposed_back : (k : ℕ) (cs : List ℕ) → Each1 (λ c. c < 2 ^ k) cs → transposed (length cs) (transposed k cs) ≡ cs
transposed_back k [] h = refl
transposed_back k (c ∷ cs) (h, hs) =
    ap (λ (z : ℕ). z ∷ transposed (length cs) (rests (transposed k (c ∷ cs)))) (low_first k c cs h)
    ∙ ap (λ (z : List ℕ). c ∷ transposed (length cs) z) (rests_behind k c cs)
    ∙ ap (λ (z : List ℕ). c ∷ z) (transposed_back k cs hs)

-- the planes of the planes of numbers are the numbers
pub planes_back : (k n : ℕ) (cs : List ℕ) → length cs ≡ n → Each1 (λ c. c < 2 ^ k) cs → planes_from 0 n (planes_from 0 k cs) ≡ cs
planes_back k n cs e h =
    ap (λ (z : ℕ). planes_from 0 z (planes_from 0 k cs)) (sym e)
    ∙ planes_transposed (length cs) (planes_from 0 k cs)
    ∙ ap (transposed (length cs)) (planes_transposed k cs)
    ∙ transposed_back k cs h

-- ---- how many planes, and how large

pub length_planes : (k count : ℕ) (ns : List ℕ) → length (planes_from k count ns) ≡ count
length_planes k zero ns = refl
length_planes k (suc count) ns = ap suc (length_planes (k + 1) count ns)

pub plane_below : (k : ℕ) (ns : List ℕ) → plane k ns < 2 ^ length ns
plane_below k [] = omega arith
plane_below k (n ∷ ns) =
    let e : 2 ^ suc (length ns) ≡ 2 ^ length ns * 2 = pow-suc 2 (length ns) in
    let b : bit_at k n < 2 = omega arith in
    omega (arith, plane_below k ns)

pub plane_fits : (k most : ℕ) (ns : List ℕ) → length ns ≤ most → plane k ns < 2 ^ most
plane_fits k most ns few =
    let le : 2 ^ length ns ≤ 2 ^ most = pow_mono few in
    omega (arith, plane_below k ns)

pub planes_below : (k count : ℕ) (ns : List ℕ) → Each1 (λ c. c < 2 ^ length ns) (planes_from k count ns)
planes_below k zero ns = tt
planes_below k (suc count) ns = (plane_below k ns, planes_below (k + 1) count ns)

pub get_or_planes : (k count i : ℕ) (ns : List ℕ) → i < count → slice_index (planes_from k count ns) i ≡ plane (k + i) ns
get_or_planes k zero i ns h = absurd (omega arith)
get_or_planes k (suc count) zero ns h =
    let e : k ≡ k + 0 = omega arith in
    ap (λ (z : ℕ). plane z ns) e
get_or_planes k (suc count) (suc i) ns h =
    let e : k + 1 + i ≡ k + suc i = omega arith in
    get_or_planes (k + 1) count i ns (omega arith) ∙ ap (λ (z : ℕ). plane z ns) e

-- one plane more
pub planes_more : (k count : ℕ) (ns : List ℕ) → planes_from k (count + 1) ns ≡ planes_from k count ns ++ plane (k + count) ns ∷ []
planes_more k zero ns =
    let e : k ≡ k + 0 = omega arith in
    ap (λ (z : ℕ). plane z ns ∷ []) e
planes_more k (suc count) ns =
    let e : k + 1 + count ≡ k + suc count = omega arith in
    let s : suc count + 1 ≡ suc (count + 1) = omega arith in
    ap (λ (z : ℕ). planes_from k z ns) s
    ∙ ap (λ (z : List ℕ). plane k ns ∷ z) (planes_more (k + 1) count ns ∙ ap (λ (z : ℕ). planes_from (k + 1) count ns ++ plane z ns ∷ []) e)

-- ---- a list that is filled up with 0

pub plane_filled : (k n : ℕ) (ns : List ℕ) → plane k (ns ++ replicate n 0) ≡ plane k ns
plane_filled k zero [] = refl
plane_filled k (suc n) [] =
    let none : bit_at k 0 ≡ 0 = omega arith in
    omega (arith, plane_filled k n [])
plane_filled k n (x ∷ ns) = ap (λ (z : ℕ). bit_at k x + 2 * z) (plane_filled k n ns)

pub planes_filled : (k count n : ℕ) (ns : List ℕ) → planes_from k count (ns ++ replicate n 0) ≡ planes_from k count ns
planes_filled k zero n ns = refl
planes_filled k (suc count) n ns =
    ap (λ (z : ℕ). z ∷ planes_from (k + 1) count (ns ++ replicate n 0)) (plane_filled k n ns)
    ∙ ap (λ (z : List ℕ). plane k ns ∷ z) (planes_filled (k + 1) count n ns)
