use Rattle.std.proofs.Common.{◌≡◌, ℕ, ◌<◌, ap, ◌∙◌, arith, rules}
use Rattle.lanes.specs.Words.{mask_of}
use Rattle.lanes.specs.Masks.{mask_turn, mask_fits_part}
use Rattle.lanes.proofs.lanes.mask_of.Goals as goal

pub overflow_add-mask : goal.overflow_add-mask
overflow_add-mask c =
    let t = mask_turn c.args.width c.args.size c.args.depth c.loop-lane._lane c.loop-lane.mask c.requires.size.0.1 c.requires.size.1 c.requires.size.2 c.loop-lane-test.true c.loop-lane.invariant in
    let s = t.small in
    search rules

pub loop-lane-preserved : goal.loop-lane-preserved
loop-lane-preserved c =
    (mask_turn c.args.width c.args.size c.args.depth c.loop-lane._lane c.loop-lane.mask c.requires.size.0.1 c.requires.size.1 c.requires.size.2 c.loop-lane-test.true c.loop-lane.invariant).next

pub overflow_cast-result : goal.overflow_cast-result
overflow_cast-result c =
    let s = mask_fits_part c.args.width c.args.size c.args.depth c.loop-lane._lane c.requires.size.1 c.requires.size.2 c.loop-lane.auto._lane-end in
    let m : c.loop-lane.mask ≡ mask_of c.args.width c.loop-lane._lane c.args.size = c.loop-lane.invariant in
    let k : c.loop-lane.mask < 65536 = omega arith in
    search rules

pub returns : goal.returns
returns c =
    let e : c.loop-lane._lane ≡ c.args.depth = omega arith in
    c.loop-lane.invariant ∙ ap (λ (n : ℕ). mask_of c.args.width n c.args.size) e
