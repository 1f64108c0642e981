use Rattle.plans.proofs.LaneBound.{steps_hold, steps_break}
use Rattle.plans.proofs.layout.Layout.most_steps.Goals as goal

pub returns : goal.returns
returns c =
    record {
      holds = steps_hold c.args.self.now.kind c.args.self.now.request c.lane_room.result c.lane_peak.result c.lane_room.ensures c.lane_peak.ensures.value c.lane_peak.ensures.some;
      breaks = steps_break c.args.self.now.kind c.args.self.now.request c.lane_room.result c.lane_peak.result c.lane_room.ensures c.lane_peak.ensures.value c.lane_peak.ensures.some;
    }
