-- What the console says to a call of a run.
use Rattle.std.specs.Prelude.{◌≡◌, ℕ, List}
use Rattle.codes.specs.declared.facts.Facts.{Facts}
use Rattle.codes.specs.declared.shape.Shape.{Shape}
use Rattle.kernels.specs.Groups.{Unpacking}
use Rattle.kernels.specs.Meanings.{Meaning}
use Rattle.runs.specs.declared.replay.Run.{Run}
use Rattle.runs.specs.declared.calls.Call.{Call}
use Rattle.runs.specs.declared.calls.Answer.{Answer}
use Rattle.runs.specs.Law.{Point, StandsAt, kernel_of, Right, point_after}
use Rattle.replies.specs.Answers.{answered}
use Rattle.replies.specs.Texts.{reply_text}

-- the reply to a call of a run, from each point where the run stands: the text of an answer that is right there
pub record RightReply {K : Type 0} (means : K → Meaning) (f : Facts) (u : Unpacking) (c : Call) (p : Point) (q : Run K) (said : List ℕ) : Type 0 where
  pub reply_is : Answer
  pub right : Right f u c reply_is p
  pub stands : StandsAt means q (point_after f u c reply_is p)
  pub text : said ≡ reply_text (answered reply_is)

abbrev pub CallAnswered : {K : Type 0} → (means : K → Meaning) → (Shape → Unpacking) → Run K → Call → Run K → List ℕ → Type 0
CallAnswered means unpacked r c q said =
    ((means (kernel_of q)).facts ≡ (means (kernel_of r)).facts)
    × ((p : Point) → StandsAt means r p → RightReply means (means (kernel_of r)).facts (unpacked (means (kernel_of r)).facts.shape) c p q said)
