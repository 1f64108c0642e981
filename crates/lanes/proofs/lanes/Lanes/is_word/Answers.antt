use Rattle.std.proofs.Common.{ℕ, ◌-◌, ◌<◌, eqb, ap, ◌∙◌, arith}
use lib.Bits.{bit_and}
use Rattle.lanes.specs.Words.{mask_of}
use Rattle.lanes.specs.Masks.{mask_test}
use Rattle.lanes.specs.Sizes.{size_in, size_fits}
use Rattle.lanes.proofs.lanes.Lanes.is_word.Goals as goal

pub returns : goal.returns
returns c =
    let l = c.args.self.now in
    let word = c.args.word in
    let size = size_in c.args.self.now c.args.side in
    let fits : mask_of c.args.self.now.width c.args.self.now.depth (size_in c.args.self.now c.args.side) < 65536 = omega (arith, c.mask.type_inv, c.mask.ensures) in
    ap (λ (m : ℕ). eqb (bit_and word (65535 - m)) 0) c.mask.ensures ∙ mask_test l.width size l.depth word (size_fits l c.args.side).1 c.ranges.word.fits fits
