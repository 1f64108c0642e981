use Rattle.std.proofs.Common.{◌&&◌, ◌∙◌, subst, ap₂}
use Rattle.codes.specs.declared.side.Side.TheVariants.{Weights, Activations}
use Rattle.kernels.proofs.Gains.{StepAnswered, step_answered}
use Rattle.split.specs.declared.split_row.SplitRow.{SplitRow}
use Rattle.split.specs.Words.{unpacked_split}
use Rattle.split.specs.Packings.{packing_tested}
use Rattle.split.proofs.split.Split.ask.Goals as goal

pub returns : goal.returns
returns c =
    let f = c.args.self.now.facts in
    let weights = c.args.weights.now in
    let activations = c.args.activations.now in
    let packings = c.are_packings.ensures ∙ ap₂ ◌&&◌ (packing_tested f.shape Weights weights) (packing_tested f.shape Activations activations) in
    let answered = subst (λ (r : SplitRow). StepAnswered (unpacked_split c.args.self.now.facts.shape) c.args.self.now.facts c.args.row r.steps c.args.weights.now c.args.activations.now c.ask_step.result) c.row_at.ensures
    (step_answered (unpacked_split f.shape) f c.args.row c.row_at.result.steps weights activations
    c.lengths_fit.result c.are_packings.result c.may_step.result c.ask_step.result c.ask_step.ensures c.lengths_fit.ensures packings c.may_step.ensures) in
    record { answer = answered.answer; yes = answered.found }
