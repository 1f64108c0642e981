use Rattle.std.proofs.Common.{◌*◌, ◌/◌, ◌^◌}
use Rattle.lanes.specs.Masks.{mask_low}
use Rattle.lanes.proofs.lanes.lane_of.Goals as goal

pub returns : goal.returns
returns c = mask_low (c.args.word / 2 ^ (c.args.width * c.args.lane)) c.args.width c.requires.width
