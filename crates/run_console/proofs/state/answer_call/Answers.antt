-- The one call is answered, and its answer told.
use Rattle.std.proofs.Common.{ap}
use Rattle.replies.specs.Texts.{reply_text}
use Rattle.run_console.proofs.Calls.{one_answer}
use Rattle.run_console.proofs.state.answer_call.Goals as goal

pub returns : goal.returns
returns g c = let L = c.replay_on-next.ensures.law in (
  L.0,
  λ p at. one_answer g.K.Kernel.means _ _ _ c.replay_on-next.new.answers _ p c.replay_on-next.result _ c.replay_on-next.ensures.places (L.1 p at) (ap reply_text c.into.ensures),
)
