-- What the plan of a kernel says of its shape and its lanes.
use Rattle.std.proofs.Common.{◌*◌, ◌^◌, ◌<◌, refl, arith}
use Rattle.codes.specs.declared.facts.Facts.{Facts}
use Rattle.plans.specs.declared.kind.Kind.TheVariants.{Split as KindSplit}
use Rattle.plans.specs.declared.request.Request.{Request}
use Rattle.plans.specs.Answers.{RangesHold, LaneHolds}
use Rattle.plans.specs.Kinds.{shape_of}
use Rattle.plans.specs.Plans.{FactsOf}
use Rattle.plans.proofs.LaneBound.{lane_bound}
use Rattle.split.specs.Rows.{most_of}
use Rattle.split.proofs.Stepping.{Kept}

pub planned : (n : Request) (f : Facts) → RangesHold KindSplit n → LaneHolds KindSplit n → FactsOf KindSplit n f → Kept f
planned n f ranges holds facts =
    let sizes = ranges.0 in
    let bound = lane_bound KindSplit n n.interval holds in
    let lane : n.interval * most_of (shape_of KindSplit n) < 2 ^ 15 = omega (arith, bound) in
    record { shape = rw facts.shape ((refl, refl, sizes.0), (refl, refl, sizes.1), refl, refl, refl); lane = rw (facts.shape, facts.interval) lane }
