use Rattle.std.proofs.Common.{sym, ◌∙◌}
use Rattle.std.proofs.lemmas.Result.{err_from_is_err_and}
use Rattle.lines.proofs.Refusals.{past, stop, stop_at_bounds, stop_at_zeros, stop_at_end, joined}
use Rattle.lines.proofs.plan_line.PlanLine.parse.Goals as goal

pub returns-in_err-activation_size-clause-cases : goal.returns-in_err-activation_size-clause-cases
returns-in_err-activation_size-clause-cases c =
    let r = c.from_residual-in_err-activation_size in
    let p = err_from_is_err_and r.result r.ensures.1 in
    rw (← c.should_be.ensures.left, p.1, p.2) (past _ _ _ ⊥ _ c.in_ok-kind.ensures.cases (past _ _ _ ⊥ _ c.in_ok-weight_size.ensures.cases (stop _ _ _ _ ⊥ _ (c.number-2.ensures.usage ∙ (c.number.ensures.usage ∙ c.should_be.ensures.usage)) c.in_err-activation_size.ensures.cases)))

pub returns-in_err-depth-clause-cases : goal.returns-in_err-depth-clause-cases
returns-in_err-depth-clause-cases c =
    let r = c.from_residual-in_err-depth in
    let p = err_from_is_err_and r.result r.ensures.1 in
    rw (← c.should_be.ensures.left, p.1, p.2) (past _ _ _ ⊥ _ c.in_ok-kind.ensures.cases (past _ _ _ ⊥ _ c.in_ok-weight_size.ensures.cases (past _ _ _ ⊥ _ c.in_ok-activation_size.ensures.cases (stop _ _ _ _ ⊥ _ (c.number-3.ensures.usage ∙ (c.number-2.ensures.usage ∙ (c.number.ensures.usage ∙ c.should_be.ensures.usage))) c.in_err-depth.ensures.cases))))

pub returns-in_err-interval-clause-cases : goal.returns-in_err-interval-clause-cases
returns-in_err-interval-clause-cases c =
    let r = c.from_residual-in_err-interval in
    let p = err_from_is_err_and r.result r.ensures.1 in
    rw (← c.should_be.ensures.left, p.1, p.2) (past _ _ _ ⊥ _ c.in_ok-kind.ensures.cases (past _ _ _ ⊥ _ c.in_ok-weight_size.ensures.cases (past _ _ _ ⊥ _ c.in_ok-activation_size.ensures.cases (past _ _ _ ⊥ _ c.in_ok-depth.ensures.cases (stop _ _ _ _ ⊥ _ (c.number-4.ensures.usage ∙ (c.number-3.ensures.usage ∙ (c.number-2.ensures.usage ∙ (c.number.ensures.usage ∙ c.should_be.ensures.usage)))) c.in_err-interval.ensures.cases)))))

pub returns-in_err-rows-clause-cases : goal.returns-in_err-rows-clause-cases
returns-in_err-rows-clause-cases c =
    let r = c.from_residual-in_err-rows in
    let p = err_from_is_err_and r.result r.ensures.1 in
    rw (← c.should_be.ensures.left, p.1, p.2) (past _ _ _ ⊥ _ c.in_ok-kind.ensures.cases (past _ _ _ ⊥ _ c.in_ok-weight_size.ensures.cases (past _ _ _ ⊥ _ c.in_ok-activation_size.ensures.cases (past _ _ _ ⊥ _ c.in_ok-depth.ensures.cases (past _ _ _ ⊥ _ c.in_ok-interval.ensures.cases (stop_at_bounds _ _ _ (c.number-5.ensures.usage ∙ (c.number-4.ensures.usage ∙ (c.number-3.ensures.usage ∙ (c.number-2.ensures.usage ∙ (c.number.ensures.usage ∙ c.should_be.ensures.usage))))) c.in_err-rows.ensures.cases))))))

pub returns-in_err-zeros-clause-cases : goal.returns-in_err-zeros-clause-cases
returns-in_err-zeros-clause-cases c =
    let r = c.from_residual-in_err-zeros in
    let p = err_from_is_err_and r.result r.ensures.1 in
    rw (← c.should_be.ensures.left, p.1, p.2) (past _ _ _ ⊥ _ c.in_ok-kind.ensures.cases (past _ _ _ ⊥ _ c.in_ok-weight_size.ensures.cases (past _ _ _ ⊥ _ c.in_ok-activation_size.ensures.cases (past _ _ _ ⊥ _ c.in_ok-depth.ensures.cases (past _ _ _ ⊥ _ c.in_ok-interval.ensures.cases (past _ _ _ ⊥ _ c.in_ok-rows.ensures.cases.rows (past _ _ _ ⊥ _ c.in_ok-rows.ensures.cases.longest (stop_at_zeros _ _ _ (c.bounds.ensures.usage ∙ (c.number-5.ensures.usage ∙ (c.number-4.ensures.usage ∙ (c.number-3.ensures.usage ∙ (c.number-2.ensures.usage ∙ (c.number.ensures.usage ∙ c.should_be.ensures.usage)))))) c.in_err-zeros.ensures.cases))))))))

pub returns-in_err-end-clause-cases : goal.returns-in_err-end-clause-cases
returns-in_err-end-clause-cases c =
    let r = c.from_residual-in_err-end in
    let p = err_from_is_err_and r.result r.ensures.1 in
    rw (← c.should_be.ensures.left, p.1, p.2) (past _ _ _ ⊥ _ c.in_ok-kind.ensures.cases (past _ _ _ ⊥ _ c.in_ok-weight_size.ensures.cases (past _ _ _ ⊥ _ c.in_ok-activation_size.ensures.cases (past _ _ _ ⊥ _ c.in_ok-depth.ensures.cases (past _ _ _ ⊥ _ c.in_ok-interval.ensures.cases (past _ _ _ ⊥ _ c.in_ok-rows.ensures.cases.rows (past _ _ _ ⊥ _ c.in_ok-rows.ensures.cases.longest (past _ _ _ ⊥ _ c.in_ok-zeros.ensures.cases.weight (past _ _ _ ⊥ _ c.in_ok-zeros.ensures.cases.activation (stop_at_end _ ⊥ _ (c.zeros.ensures.usage ∙ (c.bounds.ensures.usage ∙ (c.number-5.ensures.usage ∙ (c.number-4.ensures.usage ∙ (c.number-3.ensures.usage ∙ (c.number-2.ensures.usage ∙ (c.number.ensures.usage ∙ c.should_be.ensures.usage))))))) c.in_err-end.ensures.cases))))))))))

pub returns-clause-cases : goal.returns-clause-cases
returns-clause-cases c = record {
  kind = c.in_ok-kind.ensures.cases.word;
  weight_size = c.in_ok-weight_size.ensures.cases.word;
  activation_size = c.in_ok-activation_size.ensures.cases.word;
  depth = c.in_ok-depth.ensures.cases.word;
  interval = c.in_ok-interval.ensures.cases.word;
  rows = c.in_ok-rows.ensures.cases.rows.word;
  longest = c.in_ok-rows.ensures.cases.longest.word;
  weight_zero = c.in_ok-zeros.ensures.cases.weight.word;
  activation_zero = c.in_ok-zeros.ensures.cases.activation.word;
  parts = sym c.should_be.ensures.left ∙ joined _ c.in_ok-kind.ensures.cases.parts (joined _ c.in_ok-weight_size.ensures.cases.parts (joined _ c.in_ok-activation_size.ensures.cases.parts (joined _ c.in_ok-depth.ensures.cases.parts (joined _ c.in_ok-interval.ensures.cases.parts (joined _ c.in_ok-rows.ensures.cases.rows.parts (joined _ c.in_ok-rows.ensures.cases.longest.parts (joined _ c.in_ok-zeros.ensures.cases.weight.parts (joined _ c.in_ok-zeros.ensures.cases.activation.parts (c.in_ok-end.ensures.cases)))))))));
  spells_kind = c.in_ok-kind.ensures.cases.spelled;
  spells_weight_size = c.in_ok-weight_size.ensures.cases.spelled;
  spells_activation_size = c.in_ok-activation_size.ensures.cases.spelled;
  spells_depth = c.in_ok-depth.ensures.cases.spelled;
  spells_interval = c.in_ok-interval.ensures.cases.spelled;
  spells_rows = c.in_ok-rows.ensures.cases.rows.spelled;
  spells_longest = c.in_ok-rows.ensures.cases.longest.spelled;
  spells_weight_zero = c.in_ok-zeros.ensures.cases.weight.spelled;
  spells_activation_zero = c.in_ok-zeros.ensures.cases.activation.spelled;
}
