use Rattle.std.proofs.Common.{rules}
use Rattle.std.proofs.lemmas.Result.{err_from_is_err_and}
use Rattle.lines.proofs.Taken.{none_before_slash, one_more_before_slash, refused_before_slash, unlike_slash}
use Rattle.lines.proofs.words.Words.numbers_before_slash.Goals as goal

pub loop-word-init : goal.loop-word-init
loop-word-init g c = record { taken = none_before_slash _ _ _ c.new-list.ensures.items; usage = search rules }

pub returns-in_err-spelled-clause-cases : goal.returns-in_err-spelled-clause-cases
returns-in_err-spelled-clause-cases g c =
    let p = err_from_is_err_and c.from_residual.result c.from_residual.ensures.1 in
    rw (p.1, p.2) (refused_before_slash _ _ _ _ _ _ _ _ _ c.loop-word.invariant.taken c.in-Some.ensures.word (unlike_slash c.is_slash.ensures c.if-is_slash.false) c.in_err-spelled.ensures)

pub loop-word-preserved : goal.loop-word-preserved
loop-word-preserved g c =
    record {
      taken = one_more_before_slash _ _ _ _ _ _ _ _ c.loop-word.invariant.taken c.in-Some.ensures.word (unlike_slash c.is_slash.ensures c.if-is_slash.false) c.in_ok-spelled.ensures (search rules);
      usage = search rules;
    }
