-- A list of one call has one answer.
use Rattle.std.proofs.Common.{◌≡◌, ℕ, suc, List, [], ◌∷◌, length, get_or, arith}
use Rattle.codes.specs.declared.facts.Facts.{Facts}
use Rattle.kernels.specs.Groups.{Unpacking}
use Rattle.kernels.specs.Meanings.{Meaning}
use Rattle.runs.specs.declared.replay.Run.{Run}
use Rattle.runs.specs.declared.calls.Call.{Call}
use Rattle.runs.specs.declared.calls.Answer.{Answer}
use Rattle.runs.specs.Law.{Point, Lawful}
use Rattle.replies.specs.Answers.{answered}
use Rattle.replies.specs.Texts.{reply_text}
use Rattle.run_console.specs.Replies.{RightReply}

pub one_answer : {K : Type 0} (means : K → Meaning) (f : Facts) (u : Unpacking) (c : Call) (answers : List Answer) (d : Answer) (p : Point) (q : Run K) (said : List ℕ)
    → length answers ≡ 1 → Lawful means f u (c ∷ []) answers p q → said ≡ reply_text (answered (get_or answers 0 d)) → RightReply means f u c p q said
one_answer means f u c [] d p q said e law text = absurd (let no : 0 ≡ 1 = e in omega arith)
one_answer means f u c (a ∷ []) d p q said e law text = record { reply_is = a; right = law.right.0; stands = law.stands; text = text }
one_answer means f u c (a ∷ b ∷ rest) d p q said e law text = absurd (let no : suc (suc (length rest)) ≡ 1 = e in omega arith)
