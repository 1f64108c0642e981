use Rattle.lanes.proofs.Planning.{p1_ready}
use Rattle.lanes.proofs.p1.OfP1LaneMake.lane_width.Goals as goal

pub returns : goal.returns
returns c f facts =
    let p = c.args.plan.now in
    rw (c.width_of.ensures, c.numbers.ensures) (p1_ready p.numbers f p.ranges p.lane facts)
