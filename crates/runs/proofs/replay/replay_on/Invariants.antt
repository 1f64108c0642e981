-- The calls before this place are made, and the run stands where they lead.
use Rattle.std.proofs.Common.{◌≡◌, drop}
use Rattle.runs.specs.Law.{Point, StandsAt, kernel_of}
use Rattle.runs.proofs.Walking.{WalkedTo}
use Rattle.runs.proofs.replay.replay_on.Given as goal

abbrev pub invariant-loop-place : goal.invariant-loop-place
invariant-loop-place g l =
    (drop l.place l.answers ≡ drop l.place l.initial.answers)
    × (((g.K.Kernel.means (kernel_of l.run)).facts ≡ (g.K.Kernel.means (kernel_of l.initial.run)).facts)
    × ((p : Point) → StandsAt g.K.Kernel.means l.initial.run p
    → WalkedTo g.K.Kernel.means (g.K.Kernel.means (kernel_of l.initial.run)).facts (g.K.Kernel.unpacked (g.K.Kernel.means (kernel_of l.initial.run)).facts.shape) l.calls p l.place l.run l.answers))
