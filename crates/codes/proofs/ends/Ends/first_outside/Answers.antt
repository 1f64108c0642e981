use Rattle.std.proofs.Common.{◌≡◌, true, get_or, ℤ, pos, sym, ap, ◌∙◌, w16, SFits, rules}
use Rattle.std.proofs.lemmas.Int.{to_z-of_z}
use Rattle.codes.specs.Codes.{holds}
use Rattle.codes.proofs.Outside.{scanned_none, scanned_more}
use Rattle.codes.proofs.ends.Ends.first_outside.Goals as goal

pub loop-place-init : goal.loop-place-init
loop-place-init c = scanned_none c.args.self c.args.codes.now

pub loop-place-preserved : goal.loop-place-preserved
loop-place-preserved c =
    let z : ℤ = get_or c.args.codes.now c.loop-place.place (pos 0) in
    let f : SFits w16 z = search rules in
    let e : holds c.args.self z ≡ true = ap (holds c.args.self) (sym (to_z-of_z w16 z f)) ∙ sym c.if-not-hold.ensures in
    scanned_more c.args.self c.args.codes.now c.loop-place.place c.loop-place.invariant c.loop-place-test.true e
