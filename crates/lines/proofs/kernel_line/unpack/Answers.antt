use Rattle.std.proofs.lemmas.Result.{err_from_is_err_and}
use Rattle.lines.proofs.Refusals.{past, at_first, at_later}
use Rattle.lines.proofs.kernel_line.unpack.Goals as goal

pub returns-in_err-packed-clause-cases : goal.returns-in_err-packed-clause-cases
returns-in_err-packed-clause-cases c =
    let r = c.from_residual-in_err-packed in
    let p = err_from_is_err_and r.result r.ensures.1 in
    rw (← c.should_be.ensures.left, p.1, p.2) (at_later _ _ _ _ (Unit {0}) _ (c.in_ok-side.side, c.in_ok-side.ensures.cases) (past _ _ _ (Unit {0}) _ c.in_ok-count.ensures.cases (at_first _ _ _ (Unit {0}) _ c.in_err-packed.ensures.cases)))
