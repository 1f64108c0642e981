use Rattle.std.proofs.Common.{ℕ, ◌&&◌, ap, ◌∙◌, ap₂}
use Rattle.codes.specs.declared.side.Side.TheVariants.{Weights, Activations}
use Rattle.kernels.specs.Answers.{step_answer, step_gain}
use Rattle.kernels.proofs.Gains.{step_answered}
use Rattle.lanes.specs.Words.{unpacked_lanes}
use Rattle.lanes.proofs.Reading.{packing_tested}
use Rattle.lanes.proofs.lanes.Lanes.ask_step.Goals as goal

pub returns : goal.returns
returns c =
    let l = c.args.self.now in
    let f = l.facts in
    let weights = c.args.weights.now in
    let activations = c.args.activations.now in
    let tested = packing_tested f.shape l.width l.depth l.weight_size l.activation_size l.shape_rule in
    let packings = c.are_packings.ensures ∙ ap₂ ◌&&◌ (tested Weights weights) (tested Activations activations) in
    let answered = step_answered (unpacked_lanes l.width f.shape) f c.args.row c.args.steps weights activations
    c.lengths_fit.result c.are_packings.result c.may_step.result c.ask_step.result c.ask_step.ensures c.lengths_fit.ensures packings c.may_step.ensures in
    record {
      answer = λ width e. answered.answer ∙ ap (λ (w : ℕ). step_answer (step_gain (unpacked_lanes w c.args.self.now.facts.shape) c.args.self.now.facts c.args.row c.args.steps c.args.weights.now c.args.activations.now)) e;
      yes = answered.found;
    }
