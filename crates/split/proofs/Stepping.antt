-- One step of a row.
use Rattle.std.proofs.Common.{◌≡◌, ℕ, suc, ◌+◌, ◌*◌, ◌^◌, ◌<◌, ◌≤◌, List, get_or, ℤ, pos, ◌+ℤ◌, ◌*ℤ◌, neg_ℤ, Ok, sym, subst, mul-le-mul_right, arith}
use Rattle.std.proofs.lemmas.Int.{ints}
use Rattle.codes.specs.declared.shape.Shape.{Shape}
use Rattle.codes.specs.declared.side.Side.TheVariants.{Weights, Activations}
use Rattle.codes.specs.declared.facts.Facts.{Facts}
use Rattle.codes.specs.Codes.{Between, Within}
use Rattle.codes.proofs.Extremes.{corner_most, corner_least}
use Rattle.kernels.specs.Answers.{step_gain}
use Rattle.kernels.specs.Allowed.{StepAllowed}
use Rattle.kernels.proofs.Gains.{gain_is}
use Rattle.split.specs.declared.split_row.SplitRow.{SplitRow}
use Rattle.split.specs.Words.{unpacked_split}
use Rattle.split.specs.Lanes.{product_at, InLane, LaneWithin}
use Rattle.split.specs.Rows.{size_of, ShapeFits, most_of, RowHolds}
use Rattle.split.specs.Packings.{within_size, found}

-- ---- one lane

-- a product of codes within their ends
product_small : (s : Shape) → ShapeFits s → (weight activation : ℤ) → Within s.weight_ends weight → Within s.activation_ends activation
    → Between (neg_ℤ (pos (most_of s))) (pos (most_of s)) (weight *ℤ activation)
product_small s fits weight activation hw ha =
    let x = size_of s.weight_ends in
    let y = size_of s.activation_ends in
    let w = within_size s.weight_ends fits.0 weight hw in
    let a = within_size s.activation_ends fits.1 activation ha in
    let most = corner_most x x y y weight activation w a in
    let least = corner_least x x y y weight activation w a in
    (omega (arith, ints), omega (arith, ints))

-- a lane after one product more
pub record NextLane (steps most : ℕ) (lane gain : ℤ) : Type 0 where
  pub takes : InLane (lane +ℤ gain)
  pub within : LaneWithin (steps + 1) most (lane +ℤ gain)

next_lane : (interval steps most : ℕ) (lane gain : ℤ) → steps < interval → interval * most < 2 ^ 15 → LaneWithin steps most lane
    → Between (neg_ℤ (pos most)) (pos most) gain → NextLane steps most lane gain
next_lane interval steps most lane gain lt rule held small =
    let all : suc steps * most ≤ interval * most = mul-le-mul_right most lt in
    let one : suc steps * most ≡ steps * most + most = omega arith in
    let next : (steps + 1) * most ≡ steps * most + most = omega arith in
    record { takes = (omega (arith, ints), omega (arith, ints)); within = (omega (arith, ints), omega (arith, ints)) }

-- ---- one row

-- what a kernel keeps to
pub record Kept (f : Facts) : Type 0 where
  pub shape : ShapeFits f.shape
  pub lane : f.interval * most_of f.shape < 2 ^ 15

-- each lane takes its product of two words
pub record LanesTake (s : Shape) (r : SplitRow) (weight activation : ℕ) : Type 0 where
  pub first : NextLane r.steps (most_of s) r.first (product_at 0 weight activation)
  pub second : NextLane r.steps (most_of s) r.second (product_at 1 weight activation)

-- lanes and steps by other names
lane_is : (most steps n : ℕ) (lane z : ℤ) → steps ≡ n → lane ≡ z → LaneWithin n most z → LaneWithin steps most lane
lane_is most steps n lane z es ez h = subst (λ (m : ℕ). LaneWithin m most lane) (sym es) (subst (LaneWithin n most) (sym ez) h)

-- what the questions of a step have found
module _ (f : Facts) (k : Kept f) (row : ℕ) (r : SplitRow) (weights activations : List ℕ)
    (holds : RowHolds (most_of f.shape) f.interval r) (allowed : StepAllowed (unpacked_split f.shape) f row r.steps weights activations) where
  pub lanes_take : LanesTake f.shape r (get_or weights 0 0) (get_or activations 0 0)
  unfolding product_at
  lanes_take =
      let w = (found f.shape Weights weights allowed.weight_codes allowed.weights_are).within in
      let a = (found f.shape Activations activations allowed.activation_codes allowed.activations_are).within in
      record {
        first = next_lane f.interval r.steps _ r.first _ allowed.below k.lane holds.1 (product_small f.shape k.shape _ _ w.0 a.0);
        second = next_lane f.interval r.steps _ r.second _ allowed.below k.lane holds.2 (product_small f.shape k.shape _ _ w.1.0 a.1.0);
      }

  -- the sum of the products of both groups
  pub step_gain_is : step_gain (unpacked_split f.shape) f row r.steps weights activations
      ≡ Ok (product_at 0 (get_or weights 0 0) (get_or activations 0 0) +ℤ (product_at 1 (get_or weights 0 0) (get_or activations 0 0) +ℤ pos 0))
  unfolding product_at
  step_gain_is =
      let w = found f.shape Weights weights allowed.weight_codes allowed.weights_are in
      let a = found f.shape Activations activations allowed.activation_codes allowed.activations_are in
      gain_is (unpacked_split f.shape) f row r.steps weights activations allowed _ _ w.codes_are a.codes_are

  -- the row after the step
  pub next_row : (r' : SplitRow) → r'.steps ≡ r.steps + 1
      → r'.first ≡ r.first +ℤ product_at 0 (get_or weights 0 0) (get_or activations 0 0) → r'.second ≡ r.second +ℤ product_at 1 (get_or weights 0 0) (get_or activations 0 0)
      → RowHolds (most_of f.shape) f.interval r'
  next_row r' es ef eg =
      let lt = allowed.below in (
        omega arith,
        lane_is (most_of f.shape) r'.steps (r.steps + 1) r'.first _ es ef lanes_take.first.within,
        lane_is (most_of f.shape) r'.steps (r.steps + 1) r'.second _ es eg lanes_take.second.within,
      )
