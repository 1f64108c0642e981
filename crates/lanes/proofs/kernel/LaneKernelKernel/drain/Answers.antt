use Rattle.std.proofs.Common.{◌≡◌, length, refl, rules}
use Rattle.std.proofs.lemmas.Result.{err_from_is_err_and}
use Rattle.kernels.proofs.Tables.{row_refused}
use Rattle.lanes.proofs.RowTables.{lane_table, lanes_taken}
use Rattle.lanes.proofs.kernel.LaneKernelKernel.drain.Goals as goal

pub invariant_of-self : goal.invariant_of-self
invariant_of-self g c =
    let k = c.args.self.now in
    let all : length c.args.self.now.rows ≡ 64 = search rules in
    let t = lanes_taken (lane_table g.M.Accumulator.Accumulator.ZERO g.M.Accumulator.Accumulator.value k.lanes (g.M.LaneMake.width c.args.self.now.lanes.facts.shape) k.rows k.width_rule k.word_rule k.lane_rule k.rows_rule) c.args.row c.take_row.result c.take_row.new.rows all c.take_row.ensures.answer c.take_row.ensures.after refl g.met.M.Accumulator.Accumulator.zero_is in
    record { width_rule = k.width_rule; word_rule = k.word_rule; lane_rule = k.lane_rule; rows_rule = t.holds }

pub returns-in_err-drained : goal.returns-in_err-drained
returns-in_err-drained g c =
    let k = c.args.self.now in
    let all : length c.args.self.now.rows ≡ 64 = search rules in
    let t = lanes_taken (lane_table g.M.Accumulator.Accumulator.ZERO g.M.Accumulator.Accumulator.value k.lanes (g.M.LaneMake.width c.args.self.now.lanes.facts.shape) k.rows k.width_rule k.word_rule k.lane_rule k.rows_rule) c.args.row c.take_row.result c.take_row.new.rows all c.take_row.ensures.answer c.take_row.ensures.after refl g.met.M.Accumulator.Accumulator.zero_is in
    let p = err_from_is_err_and c.from_residual.result c.from_residual.ensures.1 in
    record { answer = rw (p.1, p.2) (row_refused c.args.row _ _ _ c.in_err-drained.ensures.answer); after = t.drained }

pub returns-clause-after : goal.returns-clause-after
returns-clause-after g c =
    let k = c.args.self.now in
    let all : length c.args.self.now.rows ≡ 64 = search rules in
    let t = lanes_taken (lane_table g.M.Accumulator.Accumulator.ZERO g.M.Accumulator.Accumulator.value k.lanes (g.M.LaneMake.width c.args.self.now.lanes.facts.shape) k.rows k.width_rule k.word_rule k.lane_rule k.rows_rule) c.args.row c.take_row.result c.take_row.new.rows all c.take_row.ensures.answer c.take_row.ensures.after refl g.met.M.Accumulator.Accumulator.zero_is in
    t.drained
