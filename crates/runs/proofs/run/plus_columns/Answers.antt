use Rattle.std.proofs.Common.{◌^◌, ◌<◌, w16, w64, SFits, rules}
use Rattle.runs.proofs.Products.{plus_wrapped}
use Rattle.runs.proofs.run.plus_columns.Goals as goal

pub returns : goal.returns
returns c =
    let from : SFits w64 c.args.from = search rules in
    let weight : SFits w16 c.args.zeros.weight = search rules in
    let activation : SFits w16 c.args.zeros.activation = search rules in
    let few : c.args.columns < 2 ^ 63 = search rules in
    rw (c.from.ensures, c.from-2.ensures, c.from-3.ensures) (plus_wrapped c.args.from c.args.columns c.args.zeros.weight c.args.zeros.activation from few weight activation)
