-- The worked figures of plans: each is a computation of the two bounds.
use Rattle.std.proofs.Common.{◌≡◌, ℕ, ◌*◌, ◌/◌, ◌^◌, ◌<◌, ◌≤◌, min, refl, arith}
use Rattle.std.proofs.lemmas.Int.{ints}
use Rattle.codes.specs.Shapes.{ZerosWithin}
use Rattle.plans.specs.declared.kind.Kind.{Kind}
use Rattle.plans.specs.declared.kind.Kind.TheVariants.{P1, P2, Planes, Split}
use Rattle.plans.specs.declared.request.Request.{Request}
use Rattle.plans.specs.declared.refusal.PlanRefusal.{PlanRefusal}
use Rattle.plans.specs.declared.refusal.PlanRefusal.TheVariants.{UnknownKind, Sizes, Depth, Counts, ZeroPoints, Products, Lane, Sum}
use Rattle.plans.specs.Kinds.{shape_of}
use Rattle.plans.specs.Lanes.{LaneOverflows}
use Rattle.plans.specs.Questions.{refusal_number, Yes, GoodSizes, GoodDepth, GoodCounts, BadProduct, steps_asked}
use Rattle.plans.specs.Bounds.{peak, room, rise, fall}
use Rattle.plans.proofs.LaneBound.{low_most, high_is, lane_holds, lane_breaks, steps_hold, steps_break}
use Rattle.plans.proofs.SumBound.{sum_holds, sum_breaks_up, products_hold, products_break}
use Rattle.plans.proofs.Accepting.{all_yes, longest}
use Rattle.figures.specs.Figures.{asks, Takes, Refused, PlanFigures}

zeros_in : (k : Kind) (x y depth interval longest : ℕ) → ZerosWithin (shape_of k (asks x y depth interval longest)) (asks x y depth interval longest).zeros
zeros_in k x y depth interval longest =
    let a = low_most k x in
    let b = low_most k y in
    let c = high_is k x in
    let d = high_is k y in
    ((omega (arith, ints), omega (arith, ints)), (omega (arith, ints), omega (arith, ints)))

no_product : (k : Kind) (r : Request) → r.weight_size * r.activation_size ≤ 127 → BadProduct k r → ⊥
no_product P1 r h o = o
no_product P2 r h o = o
no_product Planes r h o = o
no_product Split r h o = products_hold r h o

-- what the questions of ranges ask
abbrev InRange : Kind → Request → Type 0
InRange k r = GoodSizes k r × GoodDepth k r × GoodCounts r

-- an interval left to the check
module _ (k : Kind) (x y depth columns interval : ℕ) where
  takes : InRange k (asks x y depth 0 columns) → x * y ≤ 127 → 1 ≤ peak k (asks x y depth 0 columns) → 1 ≤ room k (asks x y depth 0 columns) / peak k (asks x y depth 0 columns)
      → interval ≡ min (room k (asks x y depth 0 columns) / peak k (asks x y depth 0 columns)) 65536
      → columns * rise (shape_of k (asks x y depth 0 columns)) (asks x y depth 0 columns).zeros < 2 ^ 31
      → columns * fall (shape_of k (asks x y depth 0 columns)) (asks x y depth 0 columns).zeros ≤ 2 ^ 31
      → Takes k x y depth columns interval
  takes ranges products some one e up down =
      let r = asks x y depth 0 columns in
      let z = zeros_in k x y depth 0 columns in
      let holds = steps_hold k r (room k r) (peak k r) refl refl some in
      record {
        yes = all_yes k r ranges.0 ranges.1 ranges.2 z (no_product k r products) (holds 1 one) (sum_holds (shape_of k r) r.zeros columns z up down);
        rest = refl;
        asked = λ h. absurd (omega arith);
        left = λ h. longest k r (room k r / peak k r) interval e one holds (steps_break k r (room k r) (peak k r) refl refl some);
      }

-- the questions before a refused one, where the first four get a yes
before : (k : Kind) (r : Request) (limit : ℕ) → limit ≤ 8 → InRange k r → ZerosWithin (shape_of k r) r.zeros → (6 < limit → BadProduct k r → ⊥) → (7 < limit → LaneOverflows k r (steps_asked r) → ⊥)
    → (f : PlanRefusal) → refusal_number f < limit → Yes k r f
before k r limit most ranges z p l UnknownKind h = tt
before k r limit most ranges z p l Sizes h = ranges.0
before k r limit most ranges z p l Depth h = ranges.1
before k r limit most ranges z p l Counts h = ranges.2
before k r limit most ranges z p l ZeroPoints h = z
before k r limit most ranges z p l Products h = p h
before k r limit most ranges z p l Lane h = l h
before k r limit most ranges z p l Sum h = absurd (omega arith)

module _ (k : Kind) (x y depth interval columns : ℕ) (ranges : InRange k (asks x y depth interval columns)) where
  refuses_lane : x * y ≤ 127 → room k (asks x y depth interval columns) < steps_asked (asks x y depth interval columns) * peak k (asks x y depth interval columns) → Refused k (asks x y depth interval columns) 7
  refuses_lane products out =
      let r = asks x y depth interval columns in
      (Lane, refl, record { no = lane_breaks k r (steps_asked r) out; before = before k r 7 (omega arith) ranges (zeros_in k x y depth interval columns) (λ h. no_product k r products) (λ h. absurd (omega arith)) })

  refuses_sum : x * y ≤ 127 → steps_asked (asks x y depth interval columns) * peak k (asks x y depth interval columns) ≤ room k (asks x y depth interval columns)
      → 2 ^ 31 ≤ columns * rise (shape_of k (asks x y depth interval columns)) (asks x y depth interval columns).zeros → Refused k (asks x y depth interval columns) 8
  refuses_sum products fits out =
      let r = asks x y depth interval columns in
      let z = zeros_in k x y depth interval columns in
      (Sum, refl, record { no = sum_breaks_up (shape_of k r) r.zeros columns z out; before = before k r 8 (omega arith) ranges z (λ h. no_product k r products) (λ h. lane_holds k r (steps_asked r) fits) })

refuses_products : (x y depth interval columns : ℕ) → InRange Split (asks x y depth interval columns) → 127 < x * y → Refused Split (asks x y depth interval columns) 6
refuses_products x y depth interval columns ranges out =
    let r = asks x y depth interval columns in
    (Products, refl, record { no = products_break r out; before = before Split r 6 (omega arith) ranges (zeros_in Split x y depth interval columns) (λ h. absurd (omega arith)) (λ h. absurd (omega arith)) })

pub plan_figures : PlanFigures
plan_figures =
    record {
      p1_depth_2 = takes P1 2 2 2 1 14 (omega arith) (omega arith) (omega arith) (omega arith) refl (omega arith) (omega arith);
      p1_depth_2_15 = refuses_lane P1 2 2 2 15 1 (omega arith) (omega arith) (omega arith);
      p1_depth_3 = takes P1 2 2 3 1 1 (omega arith) (omega arith) (omega arith) (omega arith) refl (omega arith) (omega arith);
      p1_depth_3_2 = refuses_lane P1 2 2 3 2 1 (omega arith) (omega arith) (omega arith);
      p2_lane_width = refl;
      p2_depth_3 = takes P2 2 2 3 1 4 (omega arith) (omega arith) (omega arith) (omega arith) refl (omega arith) (omega arith);
      p2_depth_3_5 = refuses_lane P2 2 2 3 5 1 (omega arith) (omega arith) (omega arith);
      p2_depth_2 = takes P2 3 3 2 1 83 (omega arith) (omega arith) (omega arith) (omega arith) refl (omega arith) (omega arith);
      p2_depth_2_84 = refuses_lane P2 3 3 2 84 1 (omega arith) (omega arith) (omega arith);
      p1_depth_1 = takes P1 4 4 1 1 291 (omega arith) (omega arith) (omega arith) (omega arith) refl (omega arith) (omega arith);
      split_1_127 = takes Split 1 127 2 1 258 (omega arith) (omega arith) (omega arith) (omega arith) refl (omega arith) (omega arith);
      split_1_127_259 = refuses_lane Split 1 127 2 259 1 (omega arith) (omega arith) (omega arith);
      split_11_11 = takes Split 11 11 2 1 270 (omega arith) (omega arith) (omega arith) (omega arith) refl (omega arith) (omega arith);
      split_11_12 = refuses_products 11 12 2 0 1 (omega arith) (omega arith);
      planes_lane = takes Planes 8 8 16 1 4128 (omega arith) (omega arith) (omega arith) (omega arith) refl (omega arith) (omega arith);
      planes_lane_4129 = refuses_lane Planes 8 8 16 4129 1 (omega arith) (omega arith) (omega arith);
      planes_sum = takes Planes 8 8 16 33025 4128 (omega arith) (omega arith) (omega arith) (omega arith) refl (omega arith) (omega arith);
      planes_sum_33026 = refuses_sum Planes 8 8 16 0 33026 (omega arith) (omega arith) (omega arith) (omega arith);
    }
