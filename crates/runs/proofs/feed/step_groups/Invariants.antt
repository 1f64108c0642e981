-- The row has been stepped once for each group before this one.
use Rattle.std.proofs.Common.{◌≡◌, ℕ, ◌*◌, ◌<◌, ◌≤◌, ℤ, length}
use Rattle.codes.specs.declared.facts.Facts.{Facts}
use Rattle.runs.specs.Passes.{Gains, RowStepped}
use Rattle.runs.proofs.feed.step_groups.Given as goal

abbrev pub invariant-loop-weights : goal.invariant-loop-weights
invariant-loop-weights g l =
    let m = g.K.Kernel.means l.initial.kernel in
    let F : Facts = m.facts in
    ((g.K.Kernel.means l.kernel).facts ≡ (g.K.Kernel.means l.initial.kernel).facts)
    × ((groups : ℕ) → length l.fn.weights ≡ groups * F.shape.weight_words → length l.fn.activations ≡ groups * F.shape.activation_words
    → (gain : ℕ → ℤ) → Gains (g.K.Kernel.unpacked F.shape) F l.fn.weights l.fn.activations groups gain
    → l.row < 64 → groups ≤ 65536 → m.steps l.row < F.interval
    → RowStepped m l.row l.initial.kept gain (length l.yielded) l.drains (g.K.Kernel.means l.kernel) l.kept)
