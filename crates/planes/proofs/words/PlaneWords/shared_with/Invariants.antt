use Rattle.std.proofs.Common.{◌≡◌, ◌+◌, drop}
use Rattle.planes.specs.Sums.{shared_from}
use Rattle.planes.proofs.words.PlaneWords.shared_with.Given as goal

abbrev pub invariant-loop-m : goal.invariant-loop-m
invariant-loop-m l = l.sum + shared_from l.k l.m l.weights (drop l.m l.self.words.now) ≡ shared_from l.k 0 l.weights l.self.words.now
