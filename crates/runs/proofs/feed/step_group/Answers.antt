-- A step that reaches the interval, and one that does not.
use Rattle.std.proofs.Common.{sym, ap, ◌∙◌}
use Rattle.std.proofs.lemmas.Bool.{eqb-true}
use Rattle.codes.specs.declared.facts.Facts.{Facts}
use Rattle.runs.proofs.Asks.{answered_or, gain_is, not_full}
use Rattle.runs.proofs.Stepping.{grew, stepped_full, stepped_short}
use Rattle.runs.proofs.feed.step_group.Goals as goal

pub returns-then-is_full-clause-after : goal.returns-then-is_full-clause-after
returns-then-is_full-clause-after g c = λ gain l both room.
    let k = c.args.kernel.now in
    let F : Facts = (g.K.Kernel.means k).facts in
    let row = c.args.row in
    let gains = gain_is (g.K.Kernel.packed F.shape) (g.K.Kernel.unpacked F.shape) F row ((g.K.Kernel.means k).steps row) _ _ gain (g.met.K.Kernel.packs k) (g.met.K.Kernel.unpacks k) l both room in
    let steps = c.unwrap_or-steps.ensures ∙ answered_or row _ _ c.steps.result c.steps.ensures l in
    let interval = ap (λ (f : Facts). f.interval) (c.facts.ensures ∙ c.step.ensures.after.others.facts) in
    stepped_full _ _ _ row _ _ _ gain l (sym steps ∙ eqb-true _ _ (sym c.if-is_full.ensures) ∙ interval) (grew _ _ row _ gain gains c.step.ensures.after) c.drain_row.ensures.after

pub returns-else-is_full-clause-after : goal.returns-else-is_full-clause-after
returns-else-is_full-clause-after g c = λ gain l both room.
    let k = c.args.kernel.now in
    let F : Facts = (g.K.Kernel.means k).facts in
    let row = c.args.row in
    let gains = gain_is (g.K.Kernel.packed F.shape) (g.K.Kernel.unpacked F.shape) F row ((g.K.Kernel.means k).steps row) _ _ gain (g.met.K.Kernel.packs k) (g.met.K.Kernel.unpacks k) l both room in
    let steps = c.unwrap_or-steps.ensures ∙ answered_or row _ _ c.steps.result c.steps.ensures l in
    let interval = ap (λ (f : Facts). f.interval) (c.facts.ensures ∙ c.step.ensures.after.others.facts) in
    stepped_short _ _ row _ gain (λ full. not_full _ _ (sym c.if-is_full.ensures) (steps ∙ full ∙ sym interval)) (grew _ _ row _ gain gains c.step.ensures.after)
