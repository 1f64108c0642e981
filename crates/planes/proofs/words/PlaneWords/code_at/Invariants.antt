use Rattle.std.proofs.Common.{◌≡◌, ◌+◌, ◌*◌, ◌^◌, drop}
use Rattle.planes.specs.Planes.{plane}
use Rattle.planes.proofs.words.PlaneWords.code_at.Given as goal

abbrev pub invariant-loop-k : goal.invariant-loop-k
invariant-loop-k l = l.code + 2 ^ l.k * plane l.place (drop l.k l.self.words.now) ≡ plane l.place l.self.words.now
