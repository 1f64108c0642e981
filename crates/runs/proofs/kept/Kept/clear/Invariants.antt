-- The records before this one are cleared.
use Rattle.std.proofs.Common.{◌≡◌, length, take, replicate}
use Rattle.runs.specs.Tells.{empty_record}
use Rattle.runs.proofs.kept.Kept.clear.Given as goal

abbrev pub invariant-loop-record : goal.invariant-loop-record
invariant-loop-record l = (length l.record-items ≡ 64) × (take l.record-index l.record-items ≡ replicate l.record-index empty_record)
