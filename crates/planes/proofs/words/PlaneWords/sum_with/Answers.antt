use Rattle.std.proofs.Common.{◌+◌, drop}
use Rattle.planes.specs.Sums.{plane_sum_from, plane_sum}
use Rattle.planes.proofs.Loops.{SumTurn, sum_turn, sum_all}
use Rattle.planes.specs.Packings.{words_below}
use Rattle.planes.proofs.words.PlaneWords.sum_with.Goals as goal

turn : (c : goal.After-shared_with-sum)
    → SumTurn c.loop-k.sum (plane_sum c.args.self.now.words.now c.args.activations.now.words.now)
    (plane_sum_from (c.loop-k.k + 1) (drop (c.loop-k.k + 1) c.args.self.now.words.now) c.args.activations.now.words.now) c.shared_with-sum.result
turn c =
    sum_turn c.loop-k.k c.loop-k.sum c.shared_with-sum.result c.args.self.now.words.now c.args.activations.now.words.now
    c.args.self.now.few c.args.activations.now.few (words_below c.args.self.now.words.now (λ k. record { fits = c.args.self.now.fit k })) c.loop-k-test.true c.shared_with-sum.ensures c.loop-k.invariant

pub overflow_add-sum : goal.overflow_add-sum
overflow_add-sum c = record { fits = (turn c).fits }

pub loop-k-preserved : goal.loop-k-preserved
loop-k-preserved c = (turn c).next

pub returns : goal.returns
returns c = sum_all c.loop-k.k c.loop-k.sum c.args.self.now.words.now c.args.activations.now.words.now c.loop-k-test.false c.loop-k.invariant
