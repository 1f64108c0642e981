use Rattle.std.proofs.Common.{ℕ, ◌+◌, ◌*◌, ◌^◌, drop, ap, ◌∙◌}
use Rattle.planes.specs.Sums.{shared_from}
use Rattle.planes.proofs.Loops.{SumTurn, shared_turn, shared_all}
use Rattle.planes.proofs.words.PlaneWords.shared_with.Goals as goal

turn : (c : goal.After-weighted-sum)
    → SumTurn c.loop-m.sum (shared_from c.args.k 0 c.args.weights c.args.self.now.words.now)
    (shared_from c.args.k (c.loop-m.m + 1) c.args.weights (drop (c.loop-m.m + 1) c.args.self.now.words.now)) c.weighted-sum.result
turn c =
    let is = c.weighted-sum.ensures ∙ ap (λ (n : ℕ). n * 2 ^ (c.args.k + c.loop-m.m)) c.ones_shared.ensures.value in
    shared_turn c.args.k c.loop-m.m c.args.weights c.loop-m.sum c.weighted-sum.result c.args.self.now.words.now
    c.requires c.args.self.now.few c.ranges.weights.fits c.loop-m-test.true is c.loop-m.invariant

pub overflow_add-sum : goal.overflow_add-sum
overflow_add-sum c = record { fits = (turn c).fits }

pub loop-m-preserved : goal.loop-m-preserved
loop-m-preserved c = (turn c).next

pub returns : goal.returns
returns c = shared_all c.args.k c.loop-m.m c.args.weights c.loop-m.sum c.args.self.now.words.now c.loop-m-test.false c.loop-m.invariant
