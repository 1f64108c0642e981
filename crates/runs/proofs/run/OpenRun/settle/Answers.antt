-- Row after row is drained.
use Rattle.std.proofs.Common.{◌≡◌, min, ◌∙◌, arith, length-set}
use Rattle.runs.proofs.Settling.{with_rows, settled_none, settled_more, settled_all}
use Rattle.runs.proofs.run.OpenRun.settle.Goals as goal

pub loop-row-preserved : goal.loop-row-preserved
loop-row-preserved g c =
    let long = c.loop-row.invariant.0 in
    let I = c.loop-row.invariant.1 in
    let D = c.drain_row-made.ensures.after in (
      length-set c.loop-row.record-items c.loop-row.row c.drain_row-made.new.kept ∙ long,
      (
        D.others.facts ∙ I.0,
        λ s t start. settled_more _ _ s t c.loop-row.row _ (with_rows c.args.self.kept c.loop-row.record-items c.loop-row.kept.1.1.1.1.0) _ c.drain_row-made.new.kept c.drain_row-made.result c.counted-kept.result c.counted-kept.ensures c.loop-row-test.true long D (I.1 s t start),
      ),
    )

pub returns : goal.returns
returns g c =
    let m = g.K.Kernel.means c.args.self.kernel in
    let kept = c.args.self.kept in
    let now = with_rows c.args.self.kept c.loop-row.record-items c.loop-row.kept.1.1.1.1.0 in
    record {
      after = let I = c.loop-row.invariant.1 in
          record {
            facts = I.0;
            story = λ s t.
                let all : min c.loop-row.row m.facts.rows ≡ m.facts.rows = omega (arith, c.loop-row-test.false, m.facts.rows_rule.1) in
                settled_all _ _ s t _ now _ all (I.1 s t (settled_none _ _ s t));
          };
    }
