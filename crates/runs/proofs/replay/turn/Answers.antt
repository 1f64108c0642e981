use Rattle.runs.proofs.Turning.{turned_as}
use Rattle.runs.proofs.replay.turn.Goals as goal

pub returns-in-Open : goal.returns-in-Open
returns-in-Open g c = turned_as g.K.Kernel.means g.K.Kernel.unpacked _ _ _ _ _ c.in-Open.is c.turn_open.ensures

pub returns-in-Settled : goal.returns-in-Settled
returns-in-Settled g c = turned_as g.K.Kernel.means g.K.Kernel.unpacked _ _ _ _ _ c.in-Settled.is c.turn_settled.ensures
