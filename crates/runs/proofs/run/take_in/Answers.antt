-- Row after row takes the columns in, and then the run counts them.
use Rattle.std.proofs.Common.{◌≡◌, ℕ, ◌+◌, ◌*◌, ◌%◌, ◌<◌, length, get_or, pos, sym, refl, ap, ◌∙◌, arith, length-set, w64, SFits, rules}
use Rattle.std.proofs.lemmas.Int.{to_z-of_z, wrapping_add_is}
use Rattle.std.proofs.lemmas.List.{length_push}
use Rattle.codes.specs.declared.facts.Facts.{Facts}
use Rattle.codes.specs.declared.side.Side.TheVariants.{Weights}
use Rattle.codes.specs.Codes.{groups}
use Rattle.kernels.specs.Lists.{words_for}
use Rattle.kernels.proofs.ListSizes.{groups_few}
use Rattle.runs.specs.Passes.{group_words}
use Rattle.runs.proofs.Chunks.{row_turn, row_end}
use Rattle.runs.proofs.Checking.{feed_found}
use Rattle.runs.proofs.Rows.{row_some}
use Rattle.runs.proofs.Taking.{gains, gains_as, taken_as, has_room, taken_none, taken_more, taken_all}
use Rattle.runs.proofs.run.take_in.Goals as goal

pub offset_bounds-columns-row : goal.offset_bounds-columns-row
offset_bounds-columns-row g c =
    let f = c.facts-facts.result in
    let t = row_turn c.args.columns.now.weights.now (c.groups_taken-groups.result * f.shape.weight_words) f.rows c.loop-row.yielded _ c.loop-row.row-iterator c.next.new.self
    c.loop-row.invariant.0 c.loop-row.invariant.1 c.loop-row.invariant.2 c.loop-row.yielded_by c.in-Some.row c.in-Some.weights c.in-Some.ensures.steps in
    record { fits = omega (arith, t.row_is, t.below, f.rows_rule.1) }

pub bounds-columns-row : goal.bounds-columns-row
bounds-columns-row g c =
    let f = c.facts-facts.result in
    let t = row_turn c.args.columns.now.weights.now (c.groups_taken-groups.result * f.shape.weight_words) f.rows c.loop-row.yielded _ c.loop-row.row-iterator c.next.new.self
    c.loop-row.invariant.0 c.loop-row.invariant.1 c.loop-row.invariant.2 c.loop-row.yielded_by c.in-Some.row c.in-Some.weights c.in-Some.ensures.steps in
    omega (arith, t.row_is, t.below, f.rows_rule.1)

pub offset_bounds-kept-row : goal.offset_bounds-kept-row
offset_bounds-kept-row g c =
    let f = c.facts-facts.result in
    let t = row_turn c.args.columns.now.weights.now (c.groups_taken-groups.result * f.shape.weight_words) f.rows c.loop-row.yielded _ c.loop-row.row-iterator c.next.new.self
    c.loop-row.invariant.0 c.loop-row.invariant.1 c.loop-row.invariant.2 c.loop-row.yielded_by c.in-Some.row c.in-Some.weights c.in-Some.ensures.steps in
    record { fits = omega (arith, t.row_is, t.below, f.rows_rule.1) }

pub bounds-kept-row : goal.bounds-kept-row
bounds-kept-row g c =
    let f = c.facts-facts.result in
    let t = row_turn c.args.columns.now.weights.now (c.groups_taken-groups.result * f.shape.weight_words) f.rows c.loop-row.yielded _ c.loop-row.row-iterator c.next.new.self
    c.loop-row.invariant.0 c.loop-row.invariant.1 c.loop-row.invariant.2 c.loop-row.yielded_by c.in-Some.row c.in-Some.weights c.in-Some.ensures.steps in
    omega (arith, t.row_is, t.below, f.rows_rule.1)

pub loop-row-preserved : goal.loop-row-preserved
loop-row-preserved g c =
    let I = c.loop-row.invariant in
    let h = c.feed_row-made.ensures in
    let f = c.facts-facts.result in
    let F : Facts = (g.K.Kernel.means c.args.kernel.now).facts in
    let n = c.args.columns.now.count in
    let e = c.facts-facts.ensures in
    let count_is : c.groups_taken-groups.result ≡ groups F.shape.group n = c.groups_taken-groups.ensures.value ∙ ap (λ (x : Facts). groups x.shape.group n) e in
    let size_is : c.groups_taken-groups.result * f.shape.weight_words ≡ words_for F.shape Weights n = ap (λ x. x * f.shape.weight_words) c.groups_taken-groups.ensures.value ∙ ap (λ (x : Facts). words_for x.shape Weights n) e in
    let t = row_turn c.args.columns.now.weights.now (c.groups_taken-groups.result * f.shape.weight_words) f.rows c.loop-row.yielded _ c.loop-row.row-iterator c.next.new.self
    c.loop-row.invariant.0 c.loop-row.invariant.1 c.loop-row.invariant.2 c.loop-row.yielded_by c.in-Some.row c.in-Some.weights c.in-Some.ensures.steps in (
      I.0,
      I.1,
      I.2,
      simp length-set I.3,
      h.facts ∙ I.4,
      λ C s told start.
          let k = c.args.kernel.now in
          let m = g.K.Kernel.means k in
          let kept = c.args.kept.now in
          let weights = c.args.columns.now.weights.now in
          let activations = c.args.columns.now.activations.now in
          let row : ℕ = c.in-Some.row in
          let p = g.K.Kernel.packed F.shape in
          let u = g.K.Kernel.unpacked F.shape in
          let packs = g.met.K.Kernel.packs k in
          let unpacks = g.met.K.Kernel.unpacks k in
          let T = taken_as m kept s _ _ row _ c.loop-row.kept (sym t.row_is) (I.5 C s told start) in
          let found = feed_found u F kept.accepted n weights activations C.0 in
          let l : c.in-Some.row < F.rows = omega (arith, t.row_is, t.below, ap (λ (x : Facts). x.rows) e) in
          let part_is = t.part_is ∙ ap (λ w. group_words w weights (length c.loop-row.yielded)) size_is ∙ ap (group_words (words_for F.shape Weights n) weights) (sym t.row_is) in
          let G = gains m kept s told p u packs unpacks n weights activations c.args.columns.now C row c.in-Some.weights.now l part_is in
          let R = h.after (groups F.shape.group n) (t.long ∙ size_is ∙ ap (λ (x : Facts). groups F.shape.group n * x.shape.weight_words) (sym I.4))
          (found.sizes.activation_words ∙ ap (λ (x : Facts). groups F.shape.group n * x.shape.activation_words) (sym I.4)) _ (gains_as g.K.Kernel.unpacked _ F _ _ _ activations _ I.4 refl G) (omega (arith, l, F.rows_rule.1))
          (omega (arith, groups_few F.shape.group n F.shape_rules.2.0, found.sizes.few, F.longest_rule.1)) (has_room m kept s told p u packs unpacks n weights activations c.args.columns.now C row _ c.loop-row.kept l T) in
          let fits : SFits w64 (get_or c.args.columns.now.weight_sums c.in-Some.row (pos 0)) = search rules in
          taken_as m kept s _ (row + 1) _ _ _ (ap (λ i. i + 1) t.row_is ∙ sym (length_push c.loop-row.yielded (c.in-Some.row, c.in-Some.weights)))
          (taken_more m kept s told p u packs unpacks n weights activations c.args.columns.now C row _ c.loop-row.kept _ c.feed_row-made.new.kept c.feed_row-made.result c.counted-kept.result c.counted-kept.ensures _ _ l I.3
          (to_z-of_z w64 (get_or c.args.columns.now.weight_sums c.in-Some.row (pos 0)) fits) refl R T),
    )

pub returns-clause-after : goal.returns-clause-after
returns-clause-after g c = λ C s told.
    let k = c.args.kernel.now in
    let m = g.K.Kernel.means k in
    let F : Facts = (g.K.Kernel.means k).facts in
    let f = c.facts-facts.result in
    let e = c.facts-facts.ensures in
    let kept = c.args.kept.now in
    let n = c.args.columns.now.count in
    let weights = c.args.columns.now.weights.now in
    let activations = c.args.columns.now.activations.now in
    let p = g.K.Kernel.packed F.shape in
    let u = g.K.Kernel.unpacked F.shape in
    let packs = g.met.K.Kernel.packs k in
    let unpacks = g.met.K.Kernel.unpacks k in
    let fa : SFits w64 c.loop-row.kept.activation_sum = search rules in
    let fb : SFits w64 c.args.columns.now.activation_sum = search rules in
    let found = feed_found u F kept.accepted n weights activations C.0 in
    let size_is : c.groups_taken-groups.result * f.shape.weight_words ≡ words_for F.shape Weights n = ap (λ x. x * f.shape.weight_words) c.groups_taken-groups.ensures.value ∙ ap (λ (x : Facts). words_for x.shape Weights n) e in
    let exact = found.sizes.weight_words ∙ ap (λ (x : Facts). x.rows * words_for F.shape Weights n) (sym e) ∙ ap (λ w. f.rows * w) (sym size_is) in
    let all = row_end c.args.columns.now.weights.now (c.groups_taken-groups.result * f.shape.weight_words) f.rows c.loop-row.yielded _ c.loop-row.row-iterator c.next.new.self
    c.loop-row.invariant.0 c.loop-row.invariant.1 c.loop-row.invariant.2 c.loop-row.yielded_by exact
    (omega (arith, size_is, row_some F n c.args.columns.now.few.0)) c.in-None.ensures.steps in
    let start = taken_none m kept s told p u packs unpacks n weights activations c.args.columns.now C in
    let steps_are =
    c.counted-kept-2.ensures ∙ ap (λ (x : ℕ). (c.loop-row.kept.steps + x) % 18446744073709551616) c.steps_of.ensures
    ∙ ap (λ (x : ℕ). (c.loop-row.kept.steps + c.facts-facts.result.rows * x) % 18446744073709551616) c.groups_taken-groups.ensures.value
    ∙ ap (λ (x : Facts). (c.loop-row.kept.steps + x.rows * groups x.shape.group n) % 18446744073709551616) e in
    taken_all m kept s told p u packs unpacks n weights activations c.args.columns.now C _
    c.loop-row.kept (length c.loop-row.yielded) _ _ _ (all ∙ ap (λ (x : Facts). x.rows) e) (wrapping_add_is w64 _ _ fa fb) c.accepted_with-kept.ensures steps_are (c.loop-row.invariant.5 C s told start)
