use Rattle.runs.proofs.Turning.{turned_fed, turned_settled}
use Rattle.runs.proofs.replay.turn_open.Goals as goal

pub returns-in-Ok : goal.returns-in-Ok
returns-in-Ok g c = turned_fed g.K.Kernel.means g.K.Kernel.unpacked c.args.run c.feed.new.self _ _ _ _ c.in-Feed.is c.in-Ok.ensures.after

pub returns-in-Settle : goal.returns-in-Settle
returns-in-Settle g c = turned_settled g.K.Kernel.means g.K.Kernel.unpacked c.args.run c.settle.result _ c.in-Settle.is c.settle.ensures.after
