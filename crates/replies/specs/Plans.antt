-- What is replied to a plan.
use Rattle.std.specs.Prelude.{◌≡◌, ℕ, List, Ok, Err, Result}
use Rattle.plans.specs.declared.any_plan.AnyPlan.{AnyPlan}
use Rattle.plans.specs.declared.request.Request.{Request}
use Rattle.plans.specs.declared.refusal.PlanRefusal.{PlanRefusal}
use Rattle.plans.specs.AnyPlans.{numbers_of, NumberedAnswer}
use Rattle.replies.specs.declared.reply.Reply.{Reply}
use Rattle.replies.specs.declared.reply.Reply.TheVariants.{Accepted}
use Rattle.replies.specs.Answers.{plan_refused}
use Rattle.replies.specs.Texts.{reply_text}

-- the reply to a check's answer: the interval of the plan, or the number of the refusal
abbrev pub checked : Result AnyPlan PlanRefusal → Reply
checked (Ok plan) = Accepted (numbers_of plan).interval
checked (Err refusal) = plan_refused refusal

-- the text for the one answer that the request has
abbrev pub PlanText : ℕ → Request → List ℕ → Type 0
PlanText kind r text = (a : Result AnyPlan PlanRefusal) × NumberedAnswer kind r a × (text ≡ reply_text (checked a))
