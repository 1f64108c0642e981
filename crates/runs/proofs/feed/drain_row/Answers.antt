-- A row that has steps is drained.
use Rattle.std.proofs.Common.{◌+ℤ◌, refl, ap, ◌∙◌, arith, w64, SFits, rules}
use Rattle.std.specs.Int.{int_wrap}
use Rattle.std.proofs.lemmas.Int.{wrapping_add_is}
use Rattle.runs.proofs.Asks.{answered_or, in_row}
use Rattle.runs.proofs.feed.drain_row.Goals as goal

pub returns : goal.returns
returns g c =
    let row = c.args.row in
    let fa : SFits w64 c.args.kept.now.drained = search rules in
    let fb : SFits w64 c.unwrap_or-total.result = search rules in
    let d = c.drain.ensures.after in
    record {
      after = record {
        others = d.others;
        weight_sum = refl;
        busy = λ l b. (
          d.total ∙ in_row row _ _ l,
          d.steps ∙ in_row row _ _ l,
          wrapping_add_is w64 _ _ fa fb ∙ ap (λ y. int_wrap w64 (c.args.kept.now.drained +ℤ y)) (c.unwrap_or-total.ensures ∙ answered_or row _ _ c.drain.result c.drain.ensures.answer l),
          refl,
        );
        idle = λ l z. absurd (omega (arith, z, c.unwrap_or.ensures ∙ answered_or row _ _ c.steps.result c.steps.ensures l, c.if-unwrap_or-eq0.false));
      };
    }
