use Rattle.std.proofs.Common.{◌∙◌, refl, sym, ap}
use Rattle.plans.specs.declared.kind.Kind.TheVariants.{P1, P2, Planes, Split}
use Rattle.plans.specs.declared.any_plan.AnyPlan.TheVariants.{P1 as P1_plan, P2 as P2_plan, Planes as Planes_plan, Split as Split_plan}
use Rattle.plans.specs.Kinds.{kind_number}
use Rattle.plans.proofs.Numbered.{numbered_answer}
use Rattle.plans.proofs.any_plan.AnyPlan.check.Goals as goal

pub returns-in-P1 : goal.returns-in-P1
returns-in-P1 c =
    numbered_answer c.args.kind P1 c.args.request.now (ap kind_number (sym c.in-P1.is) ∙ c.in_ok-try_from.ensures)
    (λ p. p.numbers) P1_plan (λ p. refl) (λ p. refl) _ _ c.check.ensures c.map.ensures.cases

pub returns-in-P2 : goal.returns-in-P2
returns-in-P2 c =
    numbered_answer c.args.kind P2 c.args.request.now (ap kind_number (sym c.in-P2.is) ∙ c.in_ok-try_from.ensures)
    (λ p. p.numbers) P2_plan (λ p. refl) (λ p. refl) _ _ c.check-in-P2.ensures c.map-in-P2.ensures.cases

pub returns-in-Planes : goal.returns-in-Planes
returns-in-Planes c =
    numbered_answer c.args.kind Planes c.args.request.now (ap kind_number (sym c.in-Planes.is) ∙ c.in_ok-try_from.ensures)
    (λ p. p.numbers) Planes_plan (λ p. refl) (λ p. refl) _ _ c.check-in-Planes.ensures c.map-in-Planes.ensures.cases

pub returns-in-Split : goal.returns-in-Split
returns-in-Split c =
    numbered_answer c.args.kind Split c.args.request.now (ap kind_number (sym c.in-Split.is) ∙ c.in_ok-try_from.ensures)
    (λ p. p.numbers) Split_plan (λ p. refl) (λ p. refl) _ _ c.check-in-Split.ensures c.map-in-Split.ensures.cases
