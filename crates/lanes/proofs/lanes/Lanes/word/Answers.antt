use Rattle.std.proofs.Common.{ap, ◌∙◌, ◌≡◌, ◌<◌, get_or, pos, arith, w16, SFits, rules}
use Rattle.std.proofs.lemmas.Int.{to_z-of_z}
use Rattle.std.proofs.ByRecursion.{All-get_or}
use Rattle.codes.specs.Codes.{Within}
use Rattle.plans.specs.Kinds.{bit_ends}
use Rattle.lanes.specs.Packings.{Turn, word_turn, word_small, word_done}
use Rattle.kernels.proofs.Naturals.{abs_of}
use Rattle.lanes.proofs.Reading.{lane_fits}
use Rattle.lanes.specs.Sizes.{size_in, size_fits}
use Rattle.lanes.proofs.lanes.Lanes.word.Goals as goal

turn : (c : goal.After-lane)
    → Turn c.args.self.now.width c.args.self.now.depth c.args.side c.args.codes.now c.loop-place.place c.loop-place.word c.unsigned_abs.result c.lane.result
turn c =
    let l = c.args.self.now in
    let fe : SFits w16 (get_or c.args.codes.now c.loop-place.place (pos 0)) = search rules in
    let within = (All-get_or (Within (bit_ends (size_in c.args.self.now c.args.side))) c.args.codes.now c.loop-place.place (pos 0) c.loop-place-test.true c.requires.within).0 in
    let code : pos c.unsigned_abs.result ≡ get_or c.args.codes.now c.loop-place.place (pos 0) = simp to_z-of_z at (ap pos c.unsigned_abs.ensures.value) ∙ abs_of _ within in
    word_turn l.width l.depth (size_in l c.args.side) c.args.side c.args.codes.now c.loop-place.place c.loop-place.word c.unsigned_abs.result c.lane.result
    l.depth_rule.0 (size_fits l c.args.side) c.requires.count c.requires.within c.loop-place-test.true code c.lane.ensures c.loop-place.invariant

pub overflow_shl-word : goal.overflow_shl-word
overflow_shl-word c =
    let l = c.args.self.now in
    let p : c.loop-place.place < c.args.self.now.depth = omega (arith, c.requires.count, c.loop-place-test.true) in
    omega (arith, lane_fits l.width l.depth (size_in l c.args.side) c.args.side c.loop-place.place c.lane.result (size_fits l c.args.side) p c.lane.ensures)

pub overflow_add-word : goal.overflow_add-word
overflow_add-word c =
    let s = (turn c).small in
    search rules

pub loop-place-preserved : goal.loop-place-preserved
loop-place-preserved c = (turn c).next

pub overflow_cast-result : goal.overflow_cast-result
overflow_cast-result c =
    let l = c.args.self.now in
    let s = word_small l.width l.depth (size_in l c.args.side) c.args.side c.args.codes.now l.depth_rule.0 (size_fits l c.args.side) c.requires.count c.requires.within in
    let k : c.loop-place.word < 65536 = omega (arith, c.loop-place.invariant) in
    search rules

pub returns : goal.returns
returns c =
    let l = c.args.self.now in
    word_done l.width l.depth c.args.side c.args.codes.now c.loop-place.place c.loop-place.word c.loop-place-test.false c.loop-place.invariant
