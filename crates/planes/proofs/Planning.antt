-- What a plan of bit planes says before its kernel is made.
use Rattle.std.proofs.Common.{◌*◌, ◌^◌, ◌<◌, refl, arith}
use Rattle.codes.specs.declared.facts.Facts.{Facts}
use Rattle.plans.specs.declared.kind.Kind.TheVariants.{Planes as PlanesKind}
use Rattle.plans.specs.declared.request.Request.{Request}
use Rattle.plans.specs.Answers.{LaneHolds}
use Rattle.plans.specs.Kinds.{shape_of}
use Rattle.plans.specs.Plans.{FactsOf}
use Rattle.plans.proofs.LaneBound.{lane_bound}
use Rattle.planes.specs.Rows.{ShapeFits, most_of}

pub record Ready (f : Facts) : Type 0 where
  pub shape : ShapeFits f.shape
  pub lane : f.interval * most_of f.shape < 2 ^ 32

pub ready : (n : Request) (f : Facts) → LaneHolds PlanesKind n → FactsOf PlanesKind n f → Ready f
ready n f holds facts =
    let bound = lane_bound PlanesKind n n.interval holds in
    let lane : n.interval * most_of (shape_of PlanesKind n) < 2 ^ 32 = omega (arith, bound) in
    record { shape = rw facts.shape ((refl, refl), (refl, refl), refl); lane = rw (facts.shape, facts.interval) lane }
