-- The steps of a row, and the sum of its codes.
use Rattle.std.proofs.Common.{◌∙◌, w64, SFits, rules}
use Rattle.std.proofs.lemmas.Int.{wrapping_add_is}
use Rattle.runs.proofs.feed.feed_row.Goals as goal

pub returns : goal.returns
returns g c =
    let fa : SFits w64 c.args.kept.now.weight_sum = search rules in
    let fb : SFits w64 c.args.sum = search rules in
    record {
      facts = c.step_groups.ensures.facts;
      after = λ groups exact same gain gains l few room.
          let R = c.step_groups.ensures.after groups exact same gain gains l few room in
          record { others = R.others; weight_sum = R.weight_sum ∙ wrapping_add_is w64 _ _ fa fb; small = R.small; row_at = R.row_at };
    }
