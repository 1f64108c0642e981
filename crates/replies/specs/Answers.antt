-- The reply to each refusal, and to each answer of a run.
use Rattle.plans.specs.declared.refusal.PlanRefusal.{PlanRefusal}
use Rattle.plans.specs.Questions.{refusal_number}
use Rattle.kernels.specs.declared.refusal.PackRefusal.{PackRefusal}
use Rattle.kernels.specs.declared.refusal.PackRefusal.TheVariants as pack
use Rattle.kernels.specs.declared.refusal.UnpackRefusal.{UnpackRefusal}
use Rattle.kernels.specs.declared.refusal.UnpackRefusal.TheVariants as unpack
use Rattle.kernels.specs.declared.refusal.RowRefusal.{RowRefusal}
use Rattle.kernels.specs.declared.refusal.StepRefusal.{StepRefusal}
use Rattle.kernels.specs.Refusals.{pack_number, unpack_number, row_number, step_number}
use Rattle.runs.specs.declared.refusal.FeedRefusal.{FeedRefusal}
use Rattle.runs.specs.declared.refusal.FeedRefusal.TheVariants as feed
use Rattle.runs.specs.declared.refusal.ReadRefusal.{ReadRefusal}
use Rattle.runs.specs.declared.calls.Answer.{Answer}
use Rattle.runs.specs.declared.calls.Answer.TheVariants as answer
use Rattle.runs.specs.Refusals.{feed_number, read_number}
use Rattle.replies.specs.declared.reply.Reply.{Reply}
use Rattle.replies.specs.declared.reply.Reply.TheVariants.{Refused, RefusedAt, RefusedInRow, Fed, Settled, Sum, Resumed, Cleared, Misplaced}

abbrev pub plan_refused : PlanRefusal → Reply
plan_refused refusal = Refused (refusal_number refusal)

abbrev pub pack_refused : PackRefusal → Reply
pack_refused pack.Count = Refused (pack_number pack.Count)
pack_refused pack.Words = Refused (pack_number pack.Words)
pack_refused (pack.Code place) = RefusedAt (pack_number (pack.Code place)) place

abbrev pub unpack_refused : UnpackRefusal → Reply
unpack_refused unpack.Count = Refused (unpack_number unpack.Count)
unpack_refused unpack.Words = Refused (unpack_number unpack.Words)
unpack_refused (unpack.Group group) = RefusedAt (unpack_number (unpack.Group group)) group

abbrev pub row_refused : RowRefusal → Reply
row_refused refusal = Refused (row_number refusal)

abbrev pub step_refused : StepRefusal → Reply
step_refused refusal = Refused (step_number refusal)

abbrev pub feed_refused : FeedRefusal → Reply
feed_refused feed.NoColumns = Refused (feed_number feed.NoColumns)
feed_refused feed.TooMany = Refused (feed_number feed.TooMany)
feed_refused feed.WeightLength = Refused (feed_number feed.WeightLength)
feed_refused feed.ActivationLength = Refused (feed_number feed.ActivationLength)
feed_refused (feed.Weights row group) = RefusedInRow (feed_number (feed.Weights row group)) row group
feed_refused (feed.Activations group) = RefusedAt (feed_number (feed.Activations group)) group

abbrev pub read_refused : ReadRefusal → Reply
read_refused refusal = Refused (read_number refusal)

-- the reply to a call of a run
abbrev pub answered : Answer → Reply
answered answer.Fed = Fed
answered (answer.FeedRefused refusal) = feed_refused refusal
answered answer.Settled = Settled
answered (answer.Sum sum steps drains) = Sum sum steps drains
answered (answer.ReadRefused refusal) = read_refused refusal
answered answer.Resumed = Resumed
answered answer.Cleared = Cleared
answered answer.Misplaced = Misplaced
