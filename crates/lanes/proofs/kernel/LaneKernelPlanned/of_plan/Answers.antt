use Rattle.lanes.proofs.RowTables.{holds_new, means_new}
use Rattle.lanes.proofs.kernel.LaneKernelPlanned.of_plan.Goals as goal

pub invariant_of-result : goal.invariant_of-result
invariant_of-result g c =
    let kept = c.of_plan.ensures.kept in
    record {
      width_rule = c.of_plan.ensures.width;
      word_rule = kept.fits;
      lane_rule = kept.lane;
      rows_rule = holds_new g.M.Accumulator.Accumulator.value c.of_plan.result g.M.Accumulator.Accumulator.ZERO g.met.M.Accumulator.Accumulator.zero_is _ c.empty.ensures;
    }

pub returns : goal.returns
returns g c =
    record {
      facts = c.of_plan.ensures.facts;
      empty = means_new g.M.Accumulator.Accumulator.value c.of_plan.result g.M.Accumulator.Accumulator.ZERO g.met.M.Accumulator.Accumulator.zero_is _ c.empty.ensures;
    }
