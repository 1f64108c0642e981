-- The sum that is kept is exact, and fits.
use Rattle.std.proofs.Common.{◌≡◌, ◌<◌, ℤ, pos, sym, ap, ◌∙◌, subst, arith, w32, w64, SFits, to_z, of_z}
use Rattle.std.specs.Result.{result_unwrap_or}
use Rattle.std.proofs.lemmas.Int.{to_z-of_z}
use Rattle.std.proofs.lemmas.Result.{Ok-from_Ok_iff}
use Rattle.codes.specs.declared.facts.Facts.{Facts}
use Rattle.runs.specs.Tells.{record_at}
use Rattle.runs.specs.Passes.{corrected_sum}
use Rattle.runs.proofs.Reading.{row_fits, row_fits_wide, sum_exact, reads_true}
use Rattle.runs.proofs.run.SettledRun.read.Goals as goal

pub returns : goal.returns
returns g c = λ s told.
    let m = g.K.Kernel.means c.args.self.now.kernel in
    let k = c.args.self.now.kept in
    let row = c.args.row in
    let sum = c.corrected_sum.result in
    let e = subst (λ (f : Facts). c.corrected_sum.result ≡ corrected_sum f.zeros (record_at k row).drained (record_at k row).weight_sum k.activation_sum k.accepted) c.facts-facts.ensures c.corrected_sum.ensures in
    let l : c.args.row < m.facts.rows = omega (arith, c.if-row-facts.false, ap (λ (f : Facts). f.rows) c.facts-facts.ensures) in
    let v = sum_exact m k s row told l sum e in
    let wide = subst (λ (z : ℤ). SFits w64 z) (sym v) (row_fits_wide m k s row told l) in
    let is = to_z-of_z w64 sum wide ∙ v in
    let ok = Ok-from_Ok_iff c.try_from.result _ _ c.try_from.ensures (subst (λ (z : ℤ). SFits w32 z) (sym is) (row_fits m k s row told l)) in
    let x = c.unwrap_or-sum.ensures ∙ ap (λ r. result_unwrap_or r (pos 0)) ok ∙ is in
    reads_true m k s row told l _ (ap (λ (y : ℤ). to_z w32 (of_z w32 y)) x ∙ to_z-of_z w32 _ (row_fits m k s row told l))
