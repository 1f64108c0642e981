use Rattle.std.proofs.lemmas.Result.{err_from_is_err_and}
use Rattle.lines.proofs.Refusals.{past, at_first, at_later}
use Rattle.lines.proofs.kernel_line.step.Goals as goal

pub returns-in_err-activations-clause-cases : goal.returns-in_err-activations-clause-cases
returns-in_err-activations-clause-cases c =
    let r = c.from_residual-in_err-activations in
    let p = err_from_is_err_and r.result r.ensures.1 in
    rw (← c.should_be.ensures.left, p.1, p.2) (past _ _ _ (Unit {0}) _ c.in_ok-row.ensures.cases (at_later _ _ _ _ (Unit {0}) _ (c.in_ok-weights.weights.items, c.in_ok-weights.ensures.cases) (at_first _ _ _ (Unit {0}) _ c.in_err-activations.ensures.cases)))
