-- The rows before this one are settled.
use Rattle.std.proofs.Common.{◌≡◌, length, min}
use Rattle.runs.specs.Stories.{Story}
use Rattle.runs.specs.Tells.{Tells}
use Rattle.runs.proofs.Settling.{SettledTo, with_rows}
use Rattle.runs.proofs.run.OpenRun.settle.Given as goal

abbrev pub invariant-loop-row : goal.invariant-loop-row
invariant-loop-row g l =
    (length l.record-items ≡ 64)
    × (((g.K.Kernel.means l.kernel).facts ≡ (g.K.Kernel.means l.fn.self.kernel).facts)
    × ((s : Story) → Tells (g.K.Kernel.means l.fn.self.kernel) l.fn.self.kept s
    → SettledTo (g.K.Kernel.means l.fn.self.kernel) l.fn.self.kept s 0 (g.K.Kernel.means l.fn.self.kernel) l.fn.self.kept
    → SettledTo (g.K.Kernel.means l.fn.self.kernel) l.fn.self.kept s (min l.row (g.K.Kernel.means l.fn.self.kernel).facts.rows) (g.K.Kernel.means l.kernel) (with_rows l.fn.self.kept l.record-items l.kept.1.1.1.1.0)))
