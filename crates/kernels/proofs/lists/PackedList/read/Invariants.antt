-- The codes read so far and those of the groups that are left make the list.
use Rattle.std.proofs.Common.{◌≡◌, List, ℤ, Ok}
use Rattle.std.specs.Iterator.Adapters.{enumerate_source, enumerate_count}
use Rattle.std.specs.Slice.Iter.{chunks_exact_size, chunks_exact_rest}
use Rattle.codes.specs.declared.shape.Shape.{Shape}
use Rattle.codes.specs.Codes.{groups}
use Rattle.codes.specs.Shapes.{words_on}
use Rattle.kernels.specs.Lists.{unpacked_list}
use Rattle.kernels.proofs.Chunking.{StandsAt}
use Rattle.kernels.proofs.UnpackedLists.{ReadTo}
use Rattle.kernels.proofs.lists.PackedList.read.Given as goal

abbrev pub invariant-loop-group : goal.invariant-loop-group
invariant-loop-group g l =
    let S : Shape = (g.K.Kernel.means l.self.kernel.now).facts.shape in
    let u = g.K.Kernel.unpacked S in
    let side = l.self.side in
    let n = l.self.count in
    let words = l.self.words.now in
    (goal.iterator-loop-group g).can_next l.group-iterator
    × (goal.iterator-loop-group g).is_finite l.group-iterator
    × StandsAt words (words_on S side) (enumerate_count l.group-iterator) (chunks_exact_size (enumerate_source l.group-iterator)) (chunks_exact_rest (enumerate_source l.group-iterator))
    × ((all : List ℤ) → unpacked_list u S side n words ≡ Ok all → ReadTo (u side) S.group (words_on S side) (groups S.group n) n words (enumerate_count l.group-iterator) l.codes all)
