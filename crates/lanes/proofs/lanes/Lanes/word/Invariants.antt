use Rattle.std.proofs.Common.{◌≡◌, ◌+◌, drop}
use Rattle.lanes.specs.Lanes.{word_from}
use Rattle.lanes.proofs.lanes.Lanes.word.Given as goal

abbrev pub invariant-loop-place : goal.invariant-loop-place
invariant-loop-place l =
    l.word + word_from l.self.width l.self.depth l.side l.place (drop l.place l.codes)
    ≡ word_from l.self.width l.self.depth l.side 0 l.codes
