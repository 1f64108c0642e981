use Rattle.std.proofs.Common.{ℕ, IfOk, ap, ◌∙◌, subst}
use Rattle.kernels.specs.Answers.{step_answer, step_gain}
use Rattle.kernels.specs.Allowed.{StepAllowed}
use Rattle.lanes.specs.declared.row.LaneRow.{LaneRow}
use Rattle.lanes.specs.Words.{unpacked_lanes}
use Rattle.lanes.proofs.kernel.LaneKernel.ask.Goals as goal

pub returns : goal.returns
returns g c =
    let k = c.args.self.now in
    let l = c.args.self.now.lanes in
    let s = c.args.self.now.lanes.facts.shape in
    let steps = ap (λ (r : LaneRow g.row.M-Accumulator.Denot). r.steps) c.row_at.ensures in
    record {
      answer = c.ask_step.ensures.answer (g.M.LaneMake.width s) k.width_rule
          ∙ ap (λ (n : ℕ). step_answer (step_gain (unpacked_lanes (g.M.LaneMake.width c.args.self.now.lanes.facts.shape) c.args.self.now.lanes.facts.shape) c.args.self.now.lanes.facts c.args.row n c.args.weights.now c.args.activations.now)) steps;
      yes = subst (λ (n : ℕ). IfOk c.ask_step.result (λ _. StepAllowed (unpacked_lanes c.args.self.now.lanes.width c.args.self.now.lanes.facts.shape) c.args.self.now.lanes.facts c.args.row n c.args.weights.now c.args.activations.now))
          steps c.ask_step.ensures.yes;
    }
