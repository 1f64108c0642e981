-- The answer to a request whose kind comes as a number is that of the kind.
use Rattle.std.proofs.Common.{◌≡◌, ℕ, Ok, Err, Result, MatchResult, IsOkAnd, sym, refl, ap, ◌∙◌, subst, arith}
use Rattle.plans.specs.declared.kind.Kind.{Kind}
use Rattle.plans.specs.declared.kind.Kind.TheVariants.{P1, P2, Planes, Split}
use Rattle.plans.specs.declared.any_plan.AnyPlan.{AnyPlan}
use Rattle.plans.specs.declared.request.Request.{Request}
use Rattle.plans.specs.declared.refusal.PlanRefusal.{PlanRefusal}
use Rattle.plans.specs.declared.refusal.PlanRefusal.TheVariants.{UnknownKind}
use Rattle.plans.specs.Kinds.{kind_number}
use Rattle.plans.specs.Answers.{FirstNo, Accepted, Answered}
use Rattle.plans.specs.AnyPlans.{kind_of, numbers_of, NumberedAnswer}
use Rattle.plans.proofs.OneAnswer.{exactly, ok_err, same_ok, same_err}

same_kind : (j k : Kind) → kind_number j ≡ kind_number k → j ≡ k
same_kind P1 k h = grind arith
same_kind P2 k h = grind arith
same_kind Planes k h = grind arith
same_kind Split k h = grind arith

-- what the kind answers, its number being known
module _ (number : ℕ) (k : Kind) (r : Request) (numbered : kind_number k ≡ number) where
  answered : (a : Result AnyPlan PlanRefusal) → Answered k numbers_of r a → (j : Kind) → kind_number j ≡ number → Answered j numbers_of r a
  answered a h j e = subst (λ (i : Kind). Answered i numbers_of r a) (sym (same_kind j k (e ∙ sym numbered))) h

  pub numbered_plan : (p : AnyPlan) → kind_of p ≡ k → Accepted k r (numbers_of p) → NumberedAnswer number r (Ok p)
  numbered_plan p same h =
      record {
        unknown = (λ q. absurd (ok_err (Ok p) p UnknownKind refl q), λ none. absurd (none k numbered));
        known = answered (Ok p) (exactly k numbers_of r (Ok p) h);
        kind = λ plan q. ap (λ (x : AnyPlan). kind_number (kind_of x)) (sym (same_ok (Ok p) p plan refl q)) ∙ (ap kind_number same ∙ numbered);
      }

  pub numbered_refusal : (e : PlanRefusal) → FirstNo k r e → NumberedAnswer number r (Err e)
  numbered_refusal e h =
      record {
        unknown = (λ q. absurd (subst (FirstNo k r) (same_err (Err e) e UnknownKind refl q) h).no, λ none. absurd (none k numbered));
        known = answered (Err e) (exactly k numbers_of r (Err e) h);
        kind = λ plan q. absurd (ok_err (Err e) plan e q refl);
      }

  -- so is what is made of the answer of that kind's own check
  module _ {T : Type 0} (numbers : T → Request) (make : T → AnyPlan) (of_kind : (p : T) → kind_of (make p) ≡ k) (same : (p : T) → numbers_of (make p) ≡ numbers p) where
    pub numbered_answer : (a : Result T PlanRefusal) (b : Result AnyPlan PlanRefusal) → Answered k numbers r a → MatchResult a (λ p. IsOkAnd b (λ q. q ≡ make p)) (λ e. b ≡ Err e) → NumberedAnswer number r b
    numbered_answer (Ok p) (Ok q) h m =
        subst (λ (x : AnyPlan). NumberedAnswer number r (Ok x)) (sym m) (numbered_plan (make p) (of_kind p) (subst (Accepted k r) (sym (same p)) (h.plan p refl)))
    numbered_answer (Ok p) (Err e) h m = absurd m
    numbered_answer (Err e) b h m = subst (NumberedAnswer number r) (sym m) (numbered_refusal e ((h.refused e).0 refl))
