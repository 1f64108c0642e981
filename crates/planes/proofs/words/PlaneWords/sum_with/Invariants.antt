use Rattle.std.proofs.Common.{◌≡◌, ◌+◌, drop}
use Rattle.planes.specs.Sums.{plane_sum_from, plane_sum}
use Rattle.planes.proofs.words.PlaneWords.sum_with.Given as goal

abbrev pub invariant-loop-k : goal.invariant-loop-k
invariant-loop-k l = l.sum + plane_sum_from l.k (drop l.k l.self.words.now) l.activations.words.now ≡ plane_sum l.self.words.now l.activations.words.now
