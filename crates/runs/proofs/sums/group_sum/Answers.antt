-- Reading a place: a refusal, a fill that is not 0, or one code more.
use Rattle.std.proofs.Common.{◌+◌, ◌%◌, ℤ, length, ap, ◌∙◌, arith, w16, w64, SFits, to_z, of_z, rules}
use Rattle.codes.specs.declared.facts.Facts.{Facts}
use Rattle.kernels.proofs.GroupReads.{packing_length}
use Rattle.runs.proofs.Totals.{ok_some, ok_none, summed_more, summed_unread, summed_unfilled, summed_all, code_added, stands_as}
use Rattle.runs.proofs.sums.group_sum.Goals as goal

pub returns-in_err-code : goal.returns-in_err-code
returns-in_err-code g c =
    let k = c.args.kernel.now in
    let F : Facts = (g.K.Kernel.means k).facts in
    let words = c.args.words.now in
    let bad = ok_none c.read_code.result c.in_err-code.ensures.value in
    c.from_residual.ensures
    ∙ summed_unread F.shape c.args.side (length words) c.args.used c.loop-place.place (g.K.Kernel.unpacked F.shape c.args.side words) bad.0 (bad.1 ∙ c.read_code.ensures) (omega (arith, ap (λ (f : Facts). f.shape.group) c.facts-place-end.ensures, c.loop-place-test.true))
    (packing_length (g.K.Kernel.packed F.shape) (g.K.Kernel.unpacked F.shape) F.shape c.args.side (g.met.K.Kernel.packs k) (g.met.K.Kernel.unpacks k) words)

pub returns-then-not-may_stand : goal.returns-then-not-may_stand
returns-then-not-may_stand g c =
    let F : Facts = (g.K.Kernel.means c.args.kernel.now).facts in
    let words = c.args.words.now in
    let code = c.in_ok-code.code in
    let fits : SFits w16 c.in_ok-code.code = search rules in
    summed_unfilled F.shape c.args.side (length words) c.args.used c.loop-place.place (g.K.Kernel.unpacked F.shape c.args.side words) code (ok_some c.read_code.result code c.in_ok-code.ensures.value ∙ c.read_code.ensures) (stands_as c.loop-place.place c.args.used code _ fits c.if-not-may_stand.ensures)

pub loop-place-preserved : goal.loop-place-preserved
loop-place-preserved g c =
    let k = c.args.kernel.now in
    let F : Facts = (g.K.Kernel.means k).facts in
    let side = c.args.side in
    let words = c.args.words.now in
    let code = c.in_ok-code.code in
    let fits : SFits w16 c.in_ok-code.code = search rules in
    summed_more F.shape side (length words) c.args.used c.loop-place.place (g.K.Kernel.unpacked F.shape side words) _ _ code (ok_some c.read_code.result code c.in_ok-code.ensures.value ∙ c.read_code.ensures)
    (stands_as c.loop-place.place c.args.used code _ fits c.if-not-may_stand.ensures) (omega (arith, ap (λ (f : Facts). f.shape.group) c.facts-place-end.ensures, c.loop-place-test.true))
    (λ codes h. (g.met.K.Kernel.unpacks k side words codes h).0.full) (ap (λ (z : ℤ). to_z w64 ((c.loop-place.sum-bits + of_z w64 z) % 18446744073709551616)) c.from-sum.ensures ∙ code_added _ code c.loop-place.auto.sum.fits fits) c.loop-place.invariant

pub returns : goal.returns
returns g c =
    let k = c.args.kernel.now in
    let F : Facts = (g.K.Kernel.means k).facts in
    let side = c.args.side in
    let words = c.args.words.now in
    summed_all (g.K.Kernel.unpacked F.shape side words) F.shape.group c.args.used c.loop-place.place _ (omega (arith, ap (λ (f : Facts). f.shape.group) c.facts-place-end.ensures, c.loop-place-test.false)) F.shape_rules.2.0
    (λ codes h. (g.met.K.Kernel.unpacks k side words codes h).0.full) c.loop-place.invariant
