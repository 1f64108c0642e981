use Rattle.std.proofs.Common.{◌≡◌, length, rules}
use Rattle.lanes.proofs.RowTables.{lane_table, lanes_step}
use Rattle.lanes.proofs.kernel.LaneKernelKernel.step.Goals as goal

pub invariant_of-self : goal.invariant_of-self
invariant_of-self g c =
    let k = c.args.self.now in
    let all : length c.args.self.now.rows ≡ 64 = search rules in
    let s = lanes_step (lane_table g.M.Accumulator.Accumulator.ZERO g.M.Accumulator.Accumulator.value k.lanes (g.M.LaneMake.width c.args.self.now.lanes.facts.shape) k.rows k.width_rule k.word_rule k.lane_rule k.rows_rule)
    c.args.row c.add.new.self all c.args.weights.now c.args.activations.now c.index-self-row.result c.in_ok-ask.ensures.yes c.add.ensures.steps c.add.ensures.accumulator in
    record { width_rule = k.width_rule; word_rule = k.word_rule; lane_rule = k.lane_rule; rows_rule = s.holds }

pub returns : goal.returns
returns g c =
    let k = c.args.self.now in
    let asked = c.in_ok-ask.ensures in
    let all : length c.args.self.now.rows ≡ 64 = search rules in
    let s = lanes_step (lane_table g.M.Accumulator.Accumulator.ZERO g.M.Accumulator.Accumulator.value k.lanes (g.M.LaneMake.width c.args.self.now.lanes.facts.shape) k.rows k.width_rule k.word_rule k.lane_rule k.rows_rule)
    c.args.row c.add.new.self all c.args.weights.now c.args.activations.now c.index-self-row.result asked.yes c.add.ensures.steps c.add.ensures.accumulator in
    record { answer = asked.answer; after = s.after }
