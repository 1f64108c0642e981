-- The four ends of a check.
use Rattle.std.proofs.Common.{◌≡◌, length, Ok, Err, sym, ◌∙◌, subst, w64, SFits, rules}
use Rattle.std.proofs.lemmas.Result.{err_from_is_err_and}
use Rattle.std.proofs.lemmas.Int.{to_z-of_z}
use Rattle.codes.specs.declared.facts.Facts.{Facts}
use Rattle.runs.specs.declared.refusal.FeedRefusal.TheVariants.{Activations}
use Rattle.runs.specs.Feeds.{ask_sizes}
use Rattle.runs.proofs.Checking.{refused_sizes, refused_row, refused_group, fed_ok}
use Rattle.runs.proofs.Rows.{totalled, not_totalled}
use Rattle.runs.proofs.Totals.{err_named, ok_kept}
use Rattle.runs.proofs.sums.check.Goals as goal

pub returns-in_err-ask_sizes-clause-checked : goal.returns-in_err-ask_sizes-clause-checked
returns-in_err-ask_sizes-clause-checked g c =
    let F : Facts = (g.K.Kernel.means c.args.kernel.now).facts in
    let p = err_from_is_err_and c.from_residual.result c.from_residual.ensures.1 in
    let P : Facts → Type 0 = λ f. Err c.in_err-ask_sizes.field-0.0 ≡ ask_sizes f c.args.accepted c.args.count (length c.args.weights.now) (length c.args.activations.now) (Ok tt) in
    rw (p.1, p.2) (refused_sizes (g.K.Kernel.unpacked F.shape) F c.args.accepted c.args.count c.args.weights.now c.args.activations.now _ (subst P c.facts-facts.ensures c.in_err-ask_sizes.ensures))

pub returns-in_err-weight_sums-clause-checked : goal.returns-in_err-weight_sums-clause-checked
returns-in_err-weight_sums-clause-checked g c =
    let F : Facts = (g.K.Kernel.means c.args.kernel.now).facts in
    let p = err_from_is_err_and c.from_residual-in_err-weight_sums.result c.from_residual-in_err-weight_sums.ensures.1 in
    let P : Facts → Type 0 = λ f. Ok tt ≡ ask_sizes f c.args.accepted c.args.count (length c.args.weights.now) (length c.args.activations.now) (Ok tt) in
    let R = c.in_err-weight_sums.ensures in
    rw (p.1, p.2 ∙ R.2) (refused_row (g.K.Kernel.unpacked F.shape) F c.args.accepted c.args.count c.args.weights.now c.args.activations.now R.0 (subst P c.facts-facts.ensures c.in_ok-ask_sizes.ensures) R.1)

pub returns-in_err-activation_sum-clause-checked : goal.returns-in_err-activation_sum-clause-checked
returns-in_err-activation_sum-clause-checked g c =
    let F : Facts = (g.K.Kernel.means c.args.kernel.now).facts in
    let p = err_from_is_err_and c.from_residual-in_err-activation_sum.result c.from_residual-in_err-activation_sum.ensures.1 in
    let P : Facts → Type 0 = λ f. Ok tt ≡ ask_sizes f c.args.accepted c.args.count (length c.args.weights.now) (length c.args.activations.now) (Ok tt) in
    let e = err_named Activations c.list_sum.result c.map_err.result c.in_err-activation_sum.field-0.0 c.in_err-activation_sum.was c.map_err.ensures.cases (λ e y k. search rules) in
    rw (p.1, p.2 ∙ e.2) (refused_group (g.K.Kernel.unpacked F.shape) F c.args.accepted c.args.count c.args.weights.now c.args.activations.now e.0 (subst P c.facts-facts.ensures c.in_ok-ask_sizes.ensures) c.in_ok-weight_sums.ensures.0 (not_totalled _ e.0 (sym e.1 ∙ c.list_sum.ensures)))

pub returns-clause-checked : goal.returns-clause-checked
returns-clause-checked g c =
    let F : Facts = (g.K.Kernel.means c.args.kernel.now).facts in
    let P : Facts → Type 0 = λ f. Ok tt ≡ ask_sizes f c.args.accepted c.args.count (length c.args.weights.now) (length c.args.activations.now) (Ok tt) in
    let fits : SFits w64 c.in_ok-activation_sum.activation_sum = search rules in
    let ok = ok_kept _ c.list_sum.result c.map_err.result c.in_ok-activation_sum.activation_sum c.in_ok-activation_sum.was c.map_err.ensures.cases in
    let sum = totalled 0 _ c.in_ok-activation_sum.activation_sum (sym ok ∙ c.list_sum.ensures) in (
      fed_ok (g.K.Kernel.unpacked F.shape) F c.args.accepted c.args.count c.args.weights.now c.args.activations.now _ (subst P c.facts-facts.ensures c.in_ok-ask_sizes.ensures) c.in_ok-weight_sums.ensures.0 sum.codes_are,
      to_z-of_z w64 c.in_ok-activation_sum.activation_sum fits ∙ sum.sum_is,
      c.in_ok-weight_sums.ensures.1,
    )
