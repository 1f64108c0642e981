use Rattle.std.proofs.Common.{rules}
use Rattle.lines.proofs.Taken.{one_more}
use Rattle.lines.proofs.words.Words.numbers.Goals as goal

pub loop-word-preserved : goal.loop-word-preserved
loop-word-preserved g c = record {
  taken = one_more _ _ _ _ _ _ _ _ c.loop-word.invariant.taken c.in-Some.ensures.word c.in_ok-spelled.ensures (search rules);
  usage = search rules;
}
