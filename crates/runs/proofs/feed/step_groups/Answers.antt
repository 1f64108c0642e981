-- Group after group of a row.
use Rattle.std.proofs.Common.{ℕ, length, ap, ◌∙◌, subst, arith}
use Rattle.std.proofs.lemmas.List.{length_push}
use Rattle.codes.specs.declared.facts.Facts.{Facts}
use Rattle.runs.specs.Passes.{RowStepped}
use Rattle.runs.proofs.Chunks.{pair_turn, pair_end}
use Rattle.runs.proofs.Stepping.{stepped_more, group_gains}
use Rattle.runs.proofs.feed.step_groups.Goals as goal

pub loop-weights-preserved : goal.loop-weights-preserved
loop-weights-preserved g c =
    let I = c.loop-weights.invariant in
    let h = c.step_group-made.ensures in (
      h.facts ∙ I.0,
      λ groups exact same gain gains l few room.
          let F : Facts = (g.K.Kernel.means c.args.kernel.now).facts in
          let e = c.facts.ensures in
          let j : ℕ = length c.loop-weights.yielded in
          let t = pair_turn c.args.weights.now c.args.activations.now F.shape.weight_words F.shape.activation_words groups F.shape_rules.3.0.0 F.shape_rules.4.0.0 exact same c.loop-weights.yielded
          c.into_iter-weights-iterator.result c.loop-weights.weights-iterator c.next.new.self (cc) (cc) (cc) (cc) c.loop-weights.yielded_by c.in-Some.weights c.in-Some.activations c.in-Some.ensures.steps in
          let R = I.1 groups exact same gain gains l few room in
          let both = group_gains g.K.Kernel.unpacked F _ j groups c.args.weights.now c.args.activations.now _ _ gain R.others.facts t.left_is t.right_is t.below gains in
          let S = h.after (gain j) l both (omega (arith, R.room, ap (λ (x : Facts). x.interval) R.others.facts)) in
          stepped_more _ _ _ c.args.row _ _ _ gain j c.loop-weights.drains c.step_group-made.result F.interval_rule.0 (omega (arith, few, t.below)) R S _ (length_push c.loop-weights.yielded (c.in-Some.weights, c.in-Some.activations)),
    )

pub returns-clause-after : goal.returns-clause-after
returns-clause-after g c = λ groups exact same gain gains l few room.
    let F : Facts = (g.K.Kernel.means c.args.kernel.now).facts in
    let e = c.facts.ensures in
    let all = pair_end c.args.weights.now c.args.activations.now F.shape.weight_words F.shape.activation_words groups F.shape_rules.3.0.0 F.shape_rules.4.0.0 exact same c.loop-weights.yielded
    c.into_iter-weights-iterator.result c.loop-weights.weights-iterator c.next.new.self (cc) (cc) (cc) (cc) c.loop-weights.yielded_by c.in-None.ensures.steps in
    subst (λ (j : ℕ). RowStepped (g.K.Kernel.means c.args.kernel.now) c.args.row c.args.kept.now gain j c.loop-weights.drains (g.K.Kernel.means c.loop-weights.kernel) c.loop-weights.kept) all
    (c.loop-weights.invariant.1 groups exact same gain gains l few room)
