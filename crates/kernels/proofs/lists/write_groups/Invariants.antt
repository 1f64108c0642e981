-- The words written so far and the packing of the codes that are left make the packing of the list.
use Rattle.std.proofs.Common.{◌≡◌, ◌-◌, ◌*◌, ◌++◌, length, take, drop}
use Rattle.std.specs.List.{AllByRecursion}
use Rattle.std.specs.Iterator.Adapters.{enumerate_source, enumerate_count}
use Rattle.std.specs.Slice.Iter.{chunks_size, chunks_rest}
use Rattle.codes.specs.declared.shape.Shape.{Shape}
use Rattle.codes.specs.Codes.{Within, groups}
use Rattle.codes.specs.Shapes.{ends_on, words_on}
use Rattle.kernels.specs.Lists.{packed_groups}
use Rattle.kernels.proofs.Chunking.{StandsAt}
use Rattle.kernels.proofs.lists.write_groups.Given as goal

abbrev pub invariant-loop-group : goal.invariant-loop-group
invariant-loop-group g l =
    let S : Shape = (g.K.Kernel.means l.kernel).facts.shape in
    let p = g.K.Kernel.packed S l.side in
    let at = enumerate_count l.group-iterator in
    let count = groups S.group (length l.codes) in
    (goal.iterator-loop-group g).can_next l.group-iterator
    × (goal.iterator-loop-group g).is_finite l.group-iterator
    × StandsAt l.codes S.group (enumerate_count l.group-iterator) (chunks_size (enumerate_source l.group-iterator)) (chunks_rest (enumerate_source l.group-iterator))
    × (AllByRecursion (Within (ends_on S l.side)) l.codes
    → take (at * words_on S l.side) l.words ++ packed_groups p S.group (count - at) (drop (at * S.group) l.codes) ≡ packed_groups p S.group count l.codes)
