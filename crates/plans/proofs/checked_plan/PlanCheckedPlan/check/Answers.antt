use Rattle.std.proofs.lemmas.Result.{err_from_is_err_and}
use Rattle.std.proofs.Common.{Err, subst}
use Rattle.plans.specs.declared.kind.Kind.{Kind}
use Rattle.plans.specs.Answers.{Accepted}
use Rattle.plans.proofs.OneAnswer.{exactly}
use Rattle.plans.proofs.checked_plan.PlanCheckedPlan.check.Goals as goal

pub returns-in_err-numbers : goal.returns-in_err-numbers
returns-in_err-numbers g c =
    let p = err_from_is_err_and c.from_residual.result c.from_residual.ensures.1 in
    rw (p.1, p.2, ← c.KIND.ensures) (exactly _ _ _ (Err c.in_err-numbers.field-0.0) c.in_err-numbers.ensures.answer)

pub returns : goal.returns
returns g c =
    let r = c.args.request.now in
    exactly _ _ _ _ (subst (λ (k : Kind). Accepted k r c.in_ok-numbers.numbers) c.KIND.ensures c.in_ok-numbers.ensures.answer)
