use Rattle.std.proofs.Common.{ltb, get_or, ap, ◌∙◌}
use Rattle.planes.specs.declared.planes_row.PlanesRow.{PlanesRow}
use Rattle.planes.specs.Rows.{empty_row}
use Rattle.planes.proofs.Reading.{words_answered}
use Rattle.planes.proofs.planes.Planes.ask.Goals as goal

pub returns : goal.returns
returns c =
    let k = c.args.self.now in
    let below = c.may_step.ensures ∙ ap (λ (r : PlanesRow). ltb r.steps c.args.self.now.facts.interval) c.row_at.ensures in
    let answered = words_answered k.facts c.args.row (get_or k.rows c.args.row empty_row).steps c.args.weights.now c.args.activations.now
    c.lengths_fit.result c.may_step.result c.ask_step.result c.type_inv.weights c.type_inv.activations c.ask_step.ensures c.lengths_fit.ensures below in
    record { answer = answered.answer; yes = answered.found }
