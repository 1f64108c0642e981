-- The sum so far with the groups that are left is the sum of all groups.
use Rattle.std.proofs.Common.{◌≡◌, length}
use Rattle.codes.specs.declared.shape.Shape.{Shape}
use Rattle.codes.specs.Codes.{groups}
use Rattle.codes.specs.Shapes.{words_on}
use Rattle.kernels.proofs.UnpackedLists.{rest_from}
use Rattle.runs.specs.Passes.{list_total}
use Rattle.runs.proofs.Totals.{on_total}
use Rattle.runs.proofs.sums.list_sum.Given as goal

abbrev pub invariant-loop-group : goal.invariant-loop-group
invariant-loop-group g l =
    let S : Shape = (g.K.Kernel.means l.kernel).facts.shape in
    on_total l.sum (rest_from (g.K.Kernel.unpacked S l.side) S.group (words_on S l.side) (groups S.group l.count) l.count l.words (length l.yielded))
    ≡ list_total (rest_from (g.K.Kernel.unpacked S l.side) S.group (words_on S l.side) (groups S.group l.count) l.count l.words 0)
