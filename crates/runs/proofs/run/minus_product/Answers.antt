use Rattle.std.proofs.Common.{w16, w64, SFits, rules}
use Rattle.runs.proofs.Products.{less_wrapped}
use Rattle.runs.proofs.run.minus_product.Goals as goal

pub returns : goal.returns
returns c =
    let from : SFits w64 c.args.from = search rules in
    let sum : SFits w64 c.args.sum = search rules in
    let zero-point : SFits w16 c.args.zero = search rules in
    rw c.from.ensures (less_wrapped c.args.from c.args.zero c.args.sum from sum zero-point)
