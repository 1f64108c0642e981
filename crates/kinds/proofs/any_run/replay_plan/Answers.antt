-- The law of the kind that the plan is of.
use mathlib.Core.List.{List}
use mathlib.Core.Path.{◌≡◌, sym, ap, subst}
use Rattle.plans.specs.declared.any_plan.AnyPlan.{AnyPlan}
use Rattle.plans.specs.AnyPlans.{kind_of, numbers_of}
use Rattle.runs.specs.declared.calls.Call.{Call}
use Rattle.runs.specs.declared.calls.Answer.{Answer}
use Rattle.kinds.specs.Laws.{PlanLaw}
use Rattle.kinds.proofs.any_run.replay_plan.Goals as goal

law_of : (plan made : AnyPlan) (calls : List Call) (answers : List Answer) → plan ≡ made → PlanLaw (kind_of made) (numbers_of made) calls answers
    → PlanLaw (kind_of plan) (numbers_of plan) calls answers
law_of plan made calls answers same = subst (λ (p : AnyPlan). PlanLaw (kind_of p) (numbers_of p) calls answers) (sym same)

pub returns-in-P1 : goal.returns-in-P1
returns-in-P1 c =
    let r = c.replay_planned.ensures in
    let law = law_of c.args.plan _ c.args.calls.now _ c.in-P1.is (record { facts = _; of_plan = r.facts; right = r.law.right; reads = r.law.reads }) in
    record { kind = sym (ap kind_of c.in-P1.is); law = law; rest = r.rest; places = r.places }

pub returns-in-P2 : goal.returns-in-P2
returns-in-P2 c =
    let r = c.replay_planned-in-P2.ensures in
    let law = law_of c.args.plan _ c.args.calls.now _ c.in-P2.is (record { facts = _; of_plan = r.facts; right = r.law.right; reads = r.law.reads }) in
    record { kind = sym (ap kind_of c.in-P2.is); law = law; rest = r.rest; places = r.places }

pub returns-in-Planes : goal.returns-in-Planes
returns-in-Planes c =
    let r = c.replay_planned-in-Planes.ensures in
    let law = law_of c.args.plan _ c.args.calls.now _ c.in-Planes.is (record { facts = _; of_plan = r.facts; right = r.law.right; reads = r.law.reads }) in
    record { kind = sym (ap kind_of c.in-Planes.is); law = law; rest = r.rest; places = r.places }

pub returns-in-Split : goal.returns-in-Split
returns-in-Split c =
    let r = c.replay_planned-in-Split.ensures in
    let law = law_of c.args.plan _ c.args.calls.now _ c.in-Split.is (record { facts = _; of_plan = r.facts; right = r.law.right; reads = r.law.reads }) in
    record { kind = sym (ap kind_of c.in-Split.is); law = law; rest = r.rest; places = r.places }
