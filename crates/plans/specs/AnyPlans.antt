-- Plans of any kind, and the answer to a request whose kind comes as a number.
use Rattle.std.specs.Prelude.{◌≡◌, ℕ, ◌↔◌, Ok, Err, Result, ◌≢◌}
use Rattle.plans.specs.declared.kind.Kind.{Kind}
use Rattle.plans.specs.declared.kind.Kind.TheVariants.{P1, P2, Planes, Split}
use Rattle.plans.specs.declared.any_plan.AnyPlan.{AnyPlan}
use Rattle.plans.specs.declared.any_plan.AnyPlan.TheVariants.{P1 as P1_plan, P2 as P2_plan, Planes as Planes_plan, Split as Split_plan}
use Rattle.plans.specs.declared.request.Request.{Request}
use Rattle.plans.specs.declared.refusal.PlanRefusal.{PlanRefusal}
use Rattle.plans.specs.declared.refusal.PlanRefusal.TheVariants.{UnknownKind}
use Rattle.plans.specs.Kinds.{kind_number}
use Rattle.plans.specs.Answers.{Answered}

abbrev pub kind_of : AnyPlan → Kind
kind_of (P1_plan plan) = P1
kind_of (P2_plan plan) = P2
kind_of (Planes_plan plan) = Planes
kind_of (Split_plan plan) = Split

abbrev pub numbers_of : AnyPlan → Request
numbers_of (P1_plan plan) = plan.numbers
numbers_of (P2_plan plan) = plan.numbers
numbers_of (Planes_plan plan) = plan.numbers
numbers_of (Split_plan plan) = plan.numbers

-- a number that no kind has is refused as that; else the answer is that of the kind, and a plan is of that kind
pub record NumberedAnswer (number : ℕ) (r : Request) (a : Result AnyPlan PlanRefusal) : Type 0 where
  pub unknown : (a ≡ Err UnknownKind) ↔ ((k : Kind) → kind_number k ≢ number)
  pub known : (k : Kind) → kind_number k ≡ number → Answered k numbers_of r a
  pub kind : (plan : AnyPlan) → a ≡ Ok plan → kind_number (kind_of plan) ≡ number
