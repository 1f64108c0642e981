use Rattle.lanes.proofs.Planning.{p2_ready}
use Rattle.lanes.proofs.p2.OfP2LaneMake.lane_width.Goals as goal

pub returns : goal.returns
returns c f facts =
    let p = c.args.plan.now in
    rw (c.width_of.ensures, c.numbers.ensures) (p2_ready p.numbers f p.ranges p.lane facts)
