use Rattle.std.proofs.Common.{◌≡◌, ◌^◌, ◌<◌, ◌≤◌, length, pos, ap, ◌∙◌, arith, w16, rules}
use mir.Val.{hbits}
use Rattle.std.proofs.lemmas.Int.{to_z_pos}
use Rattle.planes.specs.Planes.{plane}
use Rattle.planes.specs.Transposed.{plane_fits}
use Rattle.planes.proofs.Loops.{BitTurn, bit_turn, bits_all}
use Rattle.planes.proofs.words.PlaneWords.code_at.Goals as goal

turn : (c : goal.After-bit_in_code-code) → BitTurn c.args.place c.loop-k.k c.args.self.now.words.now c.loop-k.code c.bit_in_code-code.result
turn c =
    let few : length c.args.self.now.words.now ≤ 16 = omega (arith, c.args.self.now.few) in
    bit_turn c.args.place c.loop-k.k c.args.self.now.words.now c.loop-k.code c.bit_in_code-code.result few c.loop-k-test.true c.bit_in_code-code.ensures c.loop-k.invariant

pub overflow_add-code : goal.overflow_add-code
overflow_add-code c =
    let small = (turn c).fits in
    search rules

pub loop-k-preserved : goal.loop-k-preserved
loop-k-preserved c = (turn c).next

all : (c : goal.After-loop-k) → c.loop-k.code ≡ plane c.args.place c.args.self.now.words.now
all c = bits_all c.args.place c.loop-k.k c.args.self.now.words.now c.loop-k.code c.loop-k-test.false c.loop-k.invariant

small : (c : goal.After-loop-k) → c.loop-k.code < 2 ^ hbits w16
small c = omega (arith, all c, plane_fits c.args.place 8 c.args.self.now.words.now c.args.self.now.few)

pub overflow_cast-result : goal.overflow_cast-result
overflow_cast-result c =
    let s = small c in
    search rules

pub returns : goal.returns
returns c = to_z_pos w16 c.loop-k.code (small c) ∙ ap pos (all c)
