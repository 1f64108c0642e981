-- The rows before this one are drained.
use Rattle.std.proofs.Common.{◌≡◌}
use Rattle.runs.proofs.Starts.{EmptyBelow}
use Rattle.runs.proofs.run.OpenRun.open.Given as goal

abbrev pub invariant-loop-row : goal.invariant-loop-row
invariant-loop-row g l =
    ((g.K.Kernel.means l.kernel).facts ≡ (g.K.Kernel.means l.initial.kernel).facts) × (EmptyBelow (g.K.Kernel.means l.initial.kernel) 0 → EmptyBelow (g.K.Kernel.means l.kernel) l.row)
