use Rattle.std.proofs.Common.{refl}
use Rattle.kernels.proofs.Tables.{new_holds, new_means}
use Rattle.split.specs.Tables.{empty_row, row_total}
use Rattle.split.proofs.RowTables.{Holds, cleared}
use Rattle.split.proofs.Planning.{planned}
use Rattle.split.proofs.split.SplitPlanned.of_plan.Goals as goal

pub invariant_of-result : goal.invariant_of-result
invariant_of-result c =
    let f = c.facts.result in
    let k = planned c.args.plan.numbers f c.args.plan.ranges c.args.plan.lane c.facts.ensures in
    record { shape_rule = k.shape; lane_rule = k.lane; rows_rule = new_holds empty_row _ c.empty.ensures (Holds f) (cleared f empty_row refl refl refl) }

pub returns : goal.returns
returns c = record { facts = c.facts.ensures; empty = new_means empty_row _ c.empty.ensures row_total (λ r. r.steps) refl refl }
