-- The 32-bit sum as two inequalities: longest times the extreme product of two distances from the zero points.
use Rattle.std.proofs.Common.{◌≡◌, ℕ, ◌+◌, ◌*◌, ◌^◌, ◌<◌, ◌≤◌, max, Bool, true, false, ltb, leb, ◌⊎◌, length, replicate, ℤ, pos, ◌-ℤ◌, neg_ℤ, ◌≤ℤ◌, MatchBool, refl, ap, inl, inr, mul-le-mul_right, arith}
use lib.ListN.{length-replicate}
use Rattle.std.proofs.lemmas.Int.{ints}
use Rattle.std.proofs.lemmas.Bool.{cases_lt, leb-true, leb-false, le-ltb}
use Rattle.codes.specs.declared.ends.Ends.{Ends}
use Rattle.codes.specs.declared.shape.Shape.{Shape}
use Rattle.codes.specs.declared.zero_points.ZeroPoints.{ZeroPoints}
use Rattle.codes.specs.Codes.{Between, Within}
use Rattle.codes.specs.Sums.{Pair, term, exact_sum}
use Rattle.codes.specs.Shapes.{PairWithin, ZerosWithin, SumOverflows}
use Rattle.codes.proofs.Extremes.{sum_most, sum_least, sum_up, sum_down, all_replicate, corner_most, corner_least, neg_neg, neg_pos, pos_neg}
use Rattle.plans.specs.declared.kind.Kind.{Kind}
use Rattle.plans.specs.declared.kind.Kind.TheVariants.{Split}
use Rattle.plans.specs.declared.request.Request.{Request}
use Rattle.plans.specs.Bounds.{reach_below, reach_above, rise, fall}
use Rattle.plans.specs.Questions.{ProductOverflows, BadProduct}
use Rattle.plans.proofs.LaneBound.{top_within}

-- a code's distance from the zero point, and the two ends' distances
distance : (e : Ends) (z code : ℤ) → Within e z → Within e code → Between (neg_ℤ (pos (reach_below e z))) (pos (reach_above e z)) (code -ℤ z)
distance e z code h i = (omega (arith, ints, h.0, i.0), omega (arith, ints, h.1, i.1))

at_low : (e : Ends) (z : ℤ) → Within e z → e.low -ℤ z ≡ neg_ℤ (pos (reach_below e z))
at_low e z h = omega (arith, ints, h.0)

at_high : (e : Ends) (z : ℤ) → Within e z → e.high -ℤ z ≡ pos (reach_above e z)
at_high e z h = omega (arith, ints, h.1)

low_within : (e : Ends) (z : ℤ) → Within e z → Within e e.low
low_within e z h = (omega (arith, ints), omega (arith, ints, h.0, h.1))

high_within : (e : Ends) (z : ℤ) → Within e z → Within e e.high
high_within e z h = (omega (arith, ints, h.0, h.1), omega (arith, ints))

pub sum_holds : (s : Shape) (z : ZeroPoints) (longest : ℕ) → ZerosWithin s z → longest * rise s z < 2 ^ 31 → longest * fall s z ≤ 2 ^ 31 → SumOverflows s z longest → ⊥
sum_holds s z longest w u d o =
    let P : Pair → Type 0 = PairWithin s.weight_ends s.activation_ends in
    let most : (p : Pair) → P p → term z p ≤ℤ pos (rise s z) =
    λ p l. corner_most _ _ _ _ _ _ (distance s.weight_ends z.weight p.weight w.0 l.weight) (distance s.activation_ends z.activation p.activation w.1 l.activation) in
    let least : (p : Pair) → P p → neg_ℤ (pos (fall s z)) ≤ℤ term z p =
    λ p l. corner_least _ _ _ _ _ _ (distance s.weight_ends z.weight p.weight w.0 l.weight) (distance s.activation_ends z.activation p.activation w.1 l.activation) in
    let a : exact_sum z o.pairs ≤ℤ pos (length o.pairs * rise s z) = sum_most (term z) P (rise s z) most o.pairs o.within in
    let b : neg_ℤ (pos (length o.pairs * fall s z)) ≤ℤ exact_sum z o.pairs = sum_least (term z) P (fall s z) least o.pairs o.within in
    let m : length o.pairs * rise s z ≤ longest * rise s z = mul-le-mul_right (rise s z) o.few in
    let n : length o.pairs * fall s z ≤ longest * fall s z = mul-le-mul_right (fall s z) o.few in
    elim o.outside [ inl i ↦ omega (arith, ints, i) | inr j ↦ omega (arith, ints, j) ]

-- one pair, as often as there may be columns
module _ (s : Shape) (z : ZeroPoints) (longest : ℕ) (p : Pair) (m : ℕ) (within : PairWithin s.weight_ends s.activation_ends p) where
  breaks_up : term z p ≡ pos m → 2 ^ 31 ≤ longest * m → SumOverflows s z longest
  breaks_up e h =
      let t : exact_sum z (replicate longest p) ≡ pos (longest * m) = sum_up (term z) m longest p e in
      record {
        pairs = replicate longest p;
        few = omega (arith, length-replicate longest p);
        within = all_replicate (PairWithin s.weight_ends s.activation_ends) longest p within;
        outside = inr (omega (arith, ints, t));
      }

  breaks_down : term z p ≡ neg_ℤ (pos m) → 2 ^ 31 < longest * m → SumOverflows s z longest
  breaks_down e h =
      let t : exact_sum z (replicate longest p) ≡ neg_ℤ (pos (longest * m)) = sum_down (term z) m longest p e in
      record {
        pairs = replicate longest p;
        few = omega (arith, length-replicate longest p);
        within = all_replicate (PairWithin s.weight_ends s.activation_ends) longest p within;
        outside = inl (omega (arith, ints, t));
      }

times_max : (n a b limit : ℕ) → limit ≤ n * max a b → (limit ≤ n * a) ⊎ (limit ≤ n * b)
times_max n a b limit h =
    elim (cases_lt a b) [
      | inl i ↦ (let e : n * max a b ≡ n * b = ap (λ (m : ℕ). n * m) (omega arith) in inr (omega arith))
      | inr j ↦ (let e : n * max a b ≡ n * a = ap (λ (m : ℕ). n * m) (omega arith) in inl (omega arith))
    ]

pub sum_breaks_up : (s : Shape) (z : ZeroPoints) (longest : ℕ) → ZerosWithin s z → 2 ^ 31 ≤ longest * rise s z → SumOverflows s z longest
sum_breaks_up s z longest within h =
    let w = s.weight_ends in
    let a = s.activation_ends in
    elim (times_max longest (reach_below w z.weight * reach_below a z.activation) (reach_above w z.weight * reach_above a z.activation) (2 ^ 31) h) [
      | inl i ↦ breaks_up s z longest (record { weight = w.low; activation = a.low }) _
          (record { weight = low_within w z.weight within.0; activation = low_within a z.activation within.1 })
          (rw (at_low w z.weight within.0, at_low a z.activation within.1) (neg_neg _ _)) i
      | inr j ↦ breaks_up s z longest (record { weight = w.high; activation = a.high }) _
          (record { weight = high_within w z.weight within.0; activation = high_within a z.activation within.1 })
          (rw (at_high w z.weight within.0, at_high a z.activation within.1) refl) j
    ]

pub sum_breaks_down : (s : Shape) (z : ZeroPoints) (longest : ℕ) → ZerosWithin s z → 2 ^ 31 < longest * fall s z → SumOverflows s z longest
sum_breaks_down s z longest within h =
    let w = s.weight_ends in
    let a = s.activation_ends in
    elim (times_max longest (reach_below w z.weight * reach_above a z.activation) (reach_above w z.weight * reach_below a z.activation) (2 ^ 31 + 1) h) [
      | inl i ↦ breaks_down s z longest (record { weight = w.low; activation = a.high }) _
          (record { weight = low_within w z.weight within.0; activation = high_within a z.activation within.1 })
          (rw (at_low w z.weight within.0, at_high a z.activation within.1) (neg_pos _ _)) i
      | inr j ↦ breaks_down s z longest (record { weight = w.high; activation = a.low }) _
          (record { weight = high_within w z.weight within.0; activation = low_within a z.activation within.1 })
          (rw (at_high w z.weight within.0, at_low a z.activation within.1) (pos_neg _ _)) j
    ]

-- an answer by a test
when_leb : (a b : ℕ) (P Q : Type 0) → (a ≤ b → P) → (b < a → Q) → MatchBool (leb a b) P Q
when_leb a b P Q under over = go (leb a b) refl
  where
    go : (t : Bool) → leb a b ≡ t → MatchBool t P Q
    go true e = under (leb-true a b e)
    go false e = over (leb-false a b e)

-- the two tests of the sum, the second where the first passes
pub sum_answer : (s : Shape) (z : ZeroPoints) (longest most least : ℕ) → ZerosWithin s z → most ≡ longest * rise s z → least ≡ longest * fall s z → most < 2 ^ 31 → MatchBool (leb least (2 ^ 31)) (SumOverflows s z longest → ⊥) (SumOverflows s z longest)
sum_answer s z longest most least w e f h =
    when_leb least (2 ^ 31) _ _ (λ l. sum_holds s z longest w (omega arith) (omega arith)) (λ g. sum_breaks_down s z longest w (omega arith))

pub sum_answer_up : (s : Shape) (z : ZeroPoints) (longest most : ℕ) → ZerosWithin s z → most ≡ longest * rise s z → 2 ^ 31 ≤ most → MatchBool (ltb most (2 ^ 31)) (SumOverflows s z longest → ⊥) (SumOverflows s z longest)
sum_answer_up s z longest most w e h = rw (le-ltb most (2 ^ 31) h) (sum_breaks_up s z longest w (omega arith))

-- the products of the signed split
pub products_hold : (r : Request) → r.weight_size * r.activation_size ≤ 127 → ProductOverflows Split r → ⊥
products_hold r h o =
    let x = r.weight_size in
    let y = r.activation_size in
    let p = o.pair in
    let m = corner_most x x y y p.weight p.activation o.within.weight o.within.activation in
    let n = corner_least x x y y p.weight p.activation o.within.weight o.within.activation in
    elim o.outside [ inl a ↦ omega (arith, ints, a) | inr b ↦ omega (arith, ints, b) ]

pub products_break : (r : Request) → 127 < r.weight_size * r.activation_size → ProductOverflows Split r
products_break r h = record { pair = _; within = top_within Split r; outside = inr (omega (arith, ints)) }

pub products_answer : (k : Kind) (r : Request) → k ≡ Split → MatchBool (leb (r.weight_size * r.activation_size) 127) (BadProduct k r → ⊥) (BadProduct k r)
products_answer k r e = rw e (when_leb (r.weight_size * r.activation_size) 127 _ _ (products_hold r) (products_break r))
