use Rattle.std.proofs.Common.{◌≡◌, ℕ, ◌<◌, ◌≤◌, map, length, nat_abs, sym, ap, ◌∙◌, arith}
use Rattle.std.proofs.lemmas.List.{take_all}
use Rattle.planes.specs.Planes.{planes_from}
use Rattle.planes.proofs.Loops.{write_turn}
use Rattle.planes.proofs.words.write_planes.Goals as goal

pub loop-k-preserved : goal.loop-k-preserved
loop-k-preserved c =
    let there : c.loop-k.k < length c.loop-k.words = omega arith in
    write_turn c.loop-k.k c.plane_of.result c.loop-k.words (map nat_abs c.args.codes.now) there c.plane_of.ensures c.loop-k.invariant

pub returns : goal.returns
returns c =
    let all : c.loop-k.k ≡ length c.args.words.now = omega arith in
    let whole : length c.loop-k.words ≤ c.loop-k.k = omega arith in
    sym (take_all c.loop-k.k c.loop-k.words whole) ∙ c.loop-k.invariant ∙ ap (λ (k : ℕ). planes_from 0 k (map nat_abs c.args.codes.now)) all
