-- The codes before the place are summed up, and those of the fill among them are 0.
use Rattle.runs.proofs.Totals.{SummedTo}
use Rattle.runs.proofs.sums.group_sum.Given as goal

abbrev pub invariant-loop-place : goal.invariant-loop-place
invariant-loop-place g l = SummedTo (g.K.Kernel.unpacked (g.K.Kernel.means l.kernel).facts.shape l.side l.words) l.used l.place l.sum
