use Rattle.std.proofs.Common.{◌≡◌, ◌+◌, ◌*◌, ◌^◌, map, drop, nat_abs}
use Rattle.planes.specs.Planes.{plane}
use Rattle.planes.proofs.words.plane_of.Given as goal

abbrev pub invariant-loop-place : goal.invariant-loop-place
invariant-loop-place l = l.word + 2 ^ l.place * plane l.k (drop l.place (map nat_abs l.codes)) ≡ plane l.k (map nat_abs l.codes)
