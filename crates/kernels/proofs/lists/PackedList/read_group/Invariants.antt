-- The codes before the place are those of the group.
use Rattle.std.proofs.Common.{◌≡◌, ◌≤◌, List, length, take, ℤ, Some}
use Rattle.codes.specs.declared.shape.Shape.{Shape}
use Rattle.kernels.proofs.lists.PackedList.read_group.Given as goal

abbrev pub invariant-loop-place : goal.invariant-loop-place
invariant-loop-place g l =
    let S : Shape = (g.K.Kernel.means l.self.kernel.now).facts.shape in
    (all : List ℤ) → g.K.Kernel.unpacked S l.self.side l.words ≡ Some all → length l.codes ≤ S.group → take l.place l.codes ≡ take l.place all
