use Rattle.std.proofs.Common.{◌≡◌, ℕ, ◌*◌, ◌^◌, ◌<◌, ◌≤◌, map, length, get_or, pos, nat_abs, sym, ap, ◌∙◌, arith, w16, SFits, rules}
use lib.ListN.{length-map, get_or-map}
use Rattle.std.proofs.lemmas.Int.{to_z-of_z}
use Rattle.planes.specs.Planes.{bit_at, plane}
use Rattle.planes.specs.Transposed.{plane_fits}
use Rattle.planes.proofs.Loops.{BitTurn, bit_turn, bits_all}
use Rattle.planes.proofs.words.plane_of.Goals as goal

turn : (c : goal.After-bit_in_plane-word) → BitTurn c.args.k c.loop-place.place (map nat_abs c.args.codes.now) c.loop-place.word c.bit_in_plane-word.result
turn c =
    let fe : SFits w16 (get_or c.args.codes.now c.loop-place.place (pos 0)) = search rules in
    let ns = map nat_abs c.args.codes.now in
    let long = length-map c.args.codes.now nat_abs in
    let few : length (map nat_abs c.args.codes.now) ≤ 16 = omega (arith, c.requires.count) in
    let there : c.loop-place.place < length (map nat_abs c.args.codes.now) = omega arith in
    let code : c.unsigned_abs.result ≡ nat_abs (get_or c.args.codes.now c.loop-place.place (pos 0)) = simp to_z-of_z at c.unsigned_abs.ensures.value in
    let is = c.bit_in_plane-word.ensures ∙ ap (λ (n : ℕ). bit_at c.args.k n * 2 ^ c.loop-place.place) (code ∙ sym (get_or-map nat_abs c.args.codes.now c.loop-place.place (pos 0))) in
    bit_turn c.args.k c.loop-place.place ns c.loop-place.word c.bit_in_plane-word.result few there is c.loop-place.invariant

pub overflow_add-word : goal.overflow_add-word
overflow_add-word c =
    let small = (turn c).fits in
    search rules

pub loop-place-preserved : goal.loop-place-preserved
loop-place-preserved c = (turn c).next

all : (c : goal.After-loop-place) → c.loop-place.word ≡ plane c.args.k (map nat_abs c.args.codes.now)
all c =
    let end : length (map nat_abs c.args.codes.now) ≤ c.loop-place.place = omega (arith, length-map c.args.codes.now nat_abs) in
    bits_all c.args.k c.loop-place.place (map nat_abs c.args.codes.now) c.loop-place.word end c.loop-place.invariant

pub overflow_cast-result : goal.overflow_cast-result
overflow_cast-result c =
    let few : length (map nat_abs c.args.codes.now) ≤ 16 = omega (arith, c.requires.count, length-map c.args.codes.now nat_abs) in
    record { fits = omega (arith, all c, plane_fits c.args.k 16 (map nat_abs c.args.codes.now) few) }

pub returns : goal.returns
returns c = all c
