use Rattle.std.proofs.Common.{◌≡◌, length, rules}
use Rattle.std.proofs.lemmas.Result.{err_from_is_err_and}
use Rattle.kernels.proofs.Tables.{row_refused}
use Rattle.planes.proofs.Stepping.{taken_row_holds, taken_row_drains}
use Rattle.planes.proofs.planes.PlanesKernel.drain.Goals as goal

pub invariant_of-self : goal.invariant_of-self
invariant_of-self c =
    let k = c.args.self.now in
    let holds = taken_row_holds k c.args.row c.take_row.result c.take_row.new.rows c.take_row.ensures.answer c.take_row.ensures.after in
    record { shape_rule = k.shape_rule; lane_rule = k.lane_rule; rows_rule = holds }

pub returns-in_err-drained : goal.returns-in_err-drained
returns-in_err-drained c =
    let all : length c.args.self.now.rows ≡ 64 = search rules in
    let p = err_from_is_err_and c.from_residual.result c.from_residual.ensures.1 in
    record {
      answer = rw (p.1, p.2) (row_refused c.args.row _ _ _ c.in_err-drained.ensures.answer);
      after = taken_row_drains c.args.self.now c.args.row c.take_row.result c.take_row.new.rows c.take_row.ensures.answer c.take_row.ensures.after all;
    }
