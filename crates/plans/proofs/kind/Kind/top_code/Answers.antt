use Rattle.std.proofs.Common.{◌≡◌, ◌∙◌}
use Rattle.plans.specs.Bounds.{top_code}
use Rattle.plans.proofs.Sizes.{top_range, top_ones}
use Rattle.plans.proofs.kind.Kind.top_code.Goals as goal

pub returns-in-P1 : goal.returns-in-P1
returns-in-P1 c =
    let e : c.low_ones.result ≡ top_code c.args.self c.args.size = c.low_ones.ensures ∙ top_ones c.args.self c.args.size c.in-P1.is in
    record { value = e; small = rw e (top_range c.args.self c.args.size c.requires) }
