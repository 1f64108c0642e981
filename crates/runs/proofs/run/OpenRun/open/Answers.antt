-- A kernel that is drained, and nothing kept.
use Rattle.std.proofs.Common.{[], sym, ◌∙◌, subst, arith}
use Rattle.runs.specs.declared.kept.Kept.{Kept}
use Rattle.runs.specs.Tells.{Tells}
use Rattle.runs.proofs.Starts.{starts, EmptyBelow, empty_more}
use Rattle.runs.proofs.run.OpenRun.open.Goals as goal

pub loop-row-preserved : goal.loop-row-preserved
loop-row-preserved g c = let I = c.loop-row.invariant in
    let d = c.drain.ensures.after in
    (d.others.facts ∙ I.0, λ start. empty_more _ _ c.loop-row.row c.loop-row-test.true d (I.1 start))

pub returns : goal.returns
returns g c =
    let m = g.K.Kernel.means c.loop-row.kernel in
    record {
      facts = c.loop-row.invariant.0;
      story = let empty : EmptyBelow m 64 = λ q l. c.loop-row.invariant.1 (λ r none. absurd (omega arith)) q (omega (arith, c.loop-row-test.false)) in
          subst (λ (k : Kept). Tells m k []) (sym c.nothing.ensures) (starts m empty);
    }
