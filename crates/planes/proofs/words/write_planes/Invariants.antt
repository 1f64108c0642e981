use Rattle.std.proofs.Common.{◌≡◌, map, take, nat_abs}
use Rattle.planes.specs.Planes.{planes_from}
use Rattle.planes.proofs.words.write_planes.Given as goal

abbrev pub invariant-loop-k : goal.invariant-loop-k
invariant-loop-k l = take l.k l.words ≡ planes_from 0 l.k (map nat_abs l.codes)
