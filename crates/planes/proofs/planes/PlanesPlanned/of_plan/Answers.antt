use Rattle.std.proofs.Common.{pos, refl, arith}
use Rattle.kernels.proofs.Tables.{new_holds, new_means}
use Rattle.planes.specs.Rows.{most_of, empty_row, RowHolds}
use Rattle.planes.proofs.Planning.{ready}
use Rattle.planes.proofs.planes.PlanesPlanned.of_plan.Goals as goal

pub invariant_of-result : goal.invariant_of-result
invariant_of-result c =
    let f = c.facts.result in
    let r = ready c.args.plan.numbers f c.args.plan.lane c.facts.ensures in
    record { shape_rule = r.shape; lane_rule = r.lane; rows_rule = new_holds empty_row _ c.empty.ensures (RowHolds (most_of f.shape)) (omega arith) }

pub returns : goal.returns
returns c = record { facts = c.facts.ensures; empty = new_means empty_row _ c.empty.ensures (λ r. pos r.lane) (λ r. r.steps) refl refl }
