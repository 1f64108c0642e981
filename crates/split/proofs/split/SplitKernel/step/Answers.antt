use Rattle.std.proofs.Common.{◌≡◌, length, arith, rules}
use Rattle.split.proofs.RowTables.{takes, step_table}
use Rattle.split.proofs.split.SplitKernel.step.Goals as goal

pub add-requires : goal.add-requires
add-requires c =
    let k = c.args.self.now in
    let allowed = c.in_ok-ask.ensures.yes in
    let t = takes k c.args.row c.args.weights.now c.args.activations.now allowed in
    record { steps = omega (arith, allowed.below, k.facts.interval_rule.1); first = t.first.takes; second = t.second.takes }

pub invariant_of-self : goal.invariant_of-self
invariant_of-self c =
    let k = c.args.self.now in
    let all : length c.args.self.now.rows ≡ 64 = search rules in
    let s = step_table k c.args.row c.args.weights.now c.args.activations.now c.in_ok-ask.ensures.yes c.add.new.self all c.add.ensures.steps c.add.ensures.first c.add.ensures.second in
    record { shape_rule = k.shape_rule; lane_rule = k.lane_rule; rows_rule = s.holds }

pub returns : goal.returns
returns c =
    let asked = c.in_ok-ask.ensures in
    let all : length c.args.self.now.rows ≡ 64 = search rules in
    let s = step_table c.args.self.now c.args.row c.args.weights.now c.args.activations.now asked.yes c.add.new.self all c.add.ensures.steps c.add.ensures.first c.add.ensures.second in
    record { answer = asked.answer; after = s.after }
