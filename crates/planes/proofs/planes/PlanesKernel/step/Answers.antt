use Rattle.std.proofs.Common.{◌≡◌, length, rules}
use Rattle.std.proofs.lemmas.Result.{err_from_is_err_and}
use Rattle.kernels.proofs.Gains.{step_refused}
use Rattle.planes.proofs.Stepping.{step_room, table_steps}
use Rattle.planes.proofs.planes.PlanesKernel.step.Goals as goal

pub returns-in_err-ask : goal.returns-in_err-ask
returns-in_err-ask c =
    let p = err_from_is_err_and c.from_residual.result c.from_residual.ensures.1 in
    let answer = c.in_err-ask.ensures.answer in
    rw (p.1, p.2) (record { answer = answer; after = step_refused c.args.row _ _ _ answer })

pub add-requires : goal.add-requires
add-requires c =
    let room = step_room c.args.self.now c.args.row c.sum_with-sum.result c.args.weights.now c.args.activations.now c.in_ok-ask.ensures.yes c.sum_with-sum.ensures in
    record { steps = room.few; lane = room.fits }

pub invariant_of-self : goal.invariant_of-self
invariant_of-self c =
    let k = c.args.self.now in
    let all : length c.args.self.now.rows ≡ 64 = search rules in
    let s = table_steps k c.args.row c.sum_with-sum.result c.args.weights.now c.args.activations.now c.in_ok-ask.ensures.yes c.sum_with-sum.ensures
    c.add.new.self all c.add.ensures.steps c.add.ensures.lane in
    record { shape_rule = k.shape_rule; lane_rule = k.lane_rule; rows_rule = s.holds }

pub returns : goal.returns
returns c =
    let asked = c.in_ok-ask.ensures in
    let all : length c.args.self.now.rows ≡ 64 = search rules in
    let s = table_steps c.args.self.now c.args.row c.sum_with-sum.result c.args.weights.now c.args.activations.now asked.yes c.sum_with-sum.ensures
    c.add.new.self all c.add.ensures.steps c.add.ensures.lane in
    record { answer = asked.answer; after = s.after }
