use Rattle.std.proofs.Common.{w32, SFits, rules}
use Rattle.std.proofs.lemmas.Int.{to_z-of_z}
use Rattle.runs.proofs.Turning.{turned_read, turned_unread, turned_cleared}
use Rattle.runs.proofs.replay.turn_settled.Goals as goal

pub returns-in-Ok : goal.returns-in-Ok
returns-in-Ok g c =
    let fits : SFits w32 c.in-Ok.sum = search rules in
    turned_read g.K.Kernel.means g.K.Kernel.unpacked c.args.run _ _ c.in-Ok.sum _ _ _ (to_z-of_z w32 c.in-Ok.sum fits) c.in-Read.is c.in-Ok.ensures

pub returns-in-Err : goal.returns-in-Err
returns-in-Err g c = turned_unread g.K.Kernel.means g.K.Kernel.unpacked c.args.run _ _ c.in-Err.refusal c.in-Read.is c.in-Err.ensures

pub returns-in-Clear : goal.returns-in-Clear
returns-in-Clear g c = turned_cleared g.K.Kernel.means g.K.Kernel.unpacked c.args.run c.clear.result _ c.in-Clear.is c.clear.ensures.kernel c.clear.ensures.story
