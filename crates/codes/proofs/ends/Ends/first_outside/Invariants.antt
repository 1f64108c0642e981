use Rattle.codes.proofs.Outside.{Scanned}
use Rattle.codes.proofs.ends.Ends.first_outside.Given as goal

abbrev pub invariant-loop-place : goal.invariant-loop-place
invariant-loop-place l = Scanned l.self l.codes l.place
