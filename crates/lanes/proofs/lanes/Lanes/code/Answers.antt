use Rattle.lanes.proofs.Reading.{lane_fits, lane_small, code_is}
use Rattle.lanes.specs.Sizes.{size_in, size_fits}
use Rattle.lanes.proofs.lanes.Lanes.code.Goals as goal

pub lane_of-requires : goal.lane_of-requires
lane_of-requires c =
    let l = c.args.self.now in
    record {
      width = l.width_rule;
      lane = lane_fits l.width l.depth (size_in l c.args.side) c.args.side c.args.place c.lane.result (size_fits l c.args.side) c.requires.there c.lane.ensures;
    }

pub overflow_cast-result : goal.overflow_cast-result
overflow_cast-result c =
    let l = c.args.self.now in
    lane_small l.width l.depth (size_in l c.args.side) c.args.side c.args.word c.args.place c.lane.result c.lane_of.result
    (size_fits l c.args.side) c.requires.there c.requires.packs c.lane.ensures c.lane_of.ensures

pub returns : goal.returns
returns c =
    let l = c.args.self.now in
    code_is l.width l.depth (size_in l c.args.side) c.args.side c.args.word c.args.place c.lane.result c.lane_of.result
    (size_fits l c.args.side) c.requires.there c.requires.packs c.lane.ensures c.lane_of.ensures
