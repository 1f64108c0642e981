use Rattle.std.proofs.Common.{◌≡◌}
use Rattle.lanes.specs.Words.{mask_of}
use Rattle.lanes.proofs.lanes.mask_of.Given as goal

abbrev pub invariant-loop-lane : goal.invariant-loop-lane
invariant-loop-lane l = l.mask ≡ mask_of l.width l._lane l.size
