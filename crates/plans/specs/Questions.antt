-- The questions of a plan check, in order.
use Rattle.std.specs.Prelude.{ℕ, ◌≤◌, max, pos, neg_ℤ}
use Rattle.codes.specs.Codes.{Range, Outside}
use Rattle.codes.specs.Sums.{Pair, product}
use Rattle.codes.specs.Shapes.{PairWithin, ZerosWithin, SumOverflows}
use Rattle.plans.specs.declared.kind.Kind.{Kind}
use Rattle.plans.specs.declared.kind.Kind.TheVariants.{P1, P2, Planes, Split}
use Rattle.plans.specs.declared.request.Request.{Request}
use Rattle.plans.specs.declared.refusal.PlanRefusal.{PlanRefusal}
use Rattle.plans.specs.declared.refusal.PlanRefusal.TheVariants.{UnknownKind, Sizes, Depth, Counts, ZeroPoints, Products, Lane, Sum}
use Rattle.plans.specs.Kinds.{ends_of, shape_of}
use Rattle.plans.specs.Lanes.{LaneOverflows}

-- the number of the question that a refusal says no to
abbrev pub refusal_number : PlanRefusal → ℕ
refusal_number UnknownKind = 1
refusal_number Sizes = 2
refusal_number Depth = 3
refusal_number Counts = 4
refusal_number ZeroPoints = 5
refusal_number Products = 6
refusal_number Lane = 7
refusal_number Sum = 8

abbrev pub largest_size : Kind → ℕ
largest_size P1 = 8
largest_size P2 = 8
largest_size Planes = 8
largest_size Split = 127

abbrev pub least_depth : Kind → ℕ
least_depth P1 = 1
least_depth P2 = 2
least_depth Planes = 16
least_depth Split = 2

abbrev pub most_depth : Kind → ℕ
most_depth P1 = 8
most_depth P2 = 8
most_depth Planes = 16
most_depth Split = 2

abbrev pub GoodSizes : Kind → Request → Type 0
GoodSizes k r = Range 1 (largest_size k) r.weight_size × Range 1 (largest_size k) r.activation_size

abbrev pub GoodDepth : Kind → Request → Type 0
GoodDepth k r = Range (least_depth k) (most_depth k) r.depth

abbrev pub GoodCounts : Request → Type 0
GoodCounts r = Range 1 64 r.rows × Range 1 65536 r.longest × (r.interval ≤ 65536)

-- two codes within their ends whose product lies outside −127 to 127
pub record ProductOverflows (k : Kind) (r : Request) : Type 0 where
  pub pair : Pair
  pub within : PairWithin (ends_of k r.weight_size) (ends_of k r.activation_size) pair
  pub outside : Outside (neg_ℤ (pos 127)) (pos 127) (product pair)

-- only the signed split is asked for its products
abbrev pub BadProduct : Kind → Request → Type 0
BadProduct P1 r = ⊥
BadProduct P2 r = ⊥
BadProduct Planes r = ⊥
BadProduct Split r = ProductOverflows Split r

-- the steps that the lane is asked for: an interval of 0, left to the check, counts as 1
abbrev pub steps_asked : Request → ℕ
steps_asked r = max 1 r.interval

-- the question gets a yes
abbrev pub Yes : Kind → Request → PlanRefusal → Type 0
Yes k r UnknownKind = Unit {0}
Yes k r Sizes = GoodSizes k r
Yes k r Depth = GoodDepth k r
Yes k r Counts = GoodCounts r
Yes k r ZeroPoints = ZerosWithin (shape_of k r) r.zeros
Yes k r Products = BadProduct k r → ⊥
Yes k r Lane = LaneOverflows k r (steps_asked r) → ⊥
Yes k r Sum = SumOverflows (shape_of k r) r.zeros r.longest → ⊥

-- the question gets a no; of the last three there are codes that show it
abbrev pub No : Kind → Request → PlanRefusal → Type 0
No k r UnknownKind = ⊥
No k r Sizes = GoodSizes k r → ⊥
No k r Depth = GoodDepth k r → ⊥
No k r Counts = GoodCounts r → ⊥
No k r ZeroPoints = ZerosWithin (shape_of k r) r.zeros → ⊥
No k r Products = BadProduct k r
No k r Lane = LaneOverflows k r (steps_asked r)
No k r Sum = SumOverflows (shape_of k r) r.zeros r.longest
