use Rattle.std.proofs.Common.{◌≡◌, ◌++◌, length}
use Rattle.std.specs.Slice.Iter.{chunks_rest, chunks_size}
use Rattle.arrays.specs.Items.{items}
use Rattle.text.specs.Pairs.{pairs}
use Rattle.text.proofs.append.append_pairs.Given as goal

abbrev pub invariant-loop-part : goal.invariant-loop-part
invariant-loop-part g l =
    (goal.iterator-loop-part g).can_next l.part-iterator
    × (goal.iterator-loop-part g).is_finite l.part-iterator
    × (chunks_size l.part-iterator ≡ 64)
    × (length l.digits ≡ 128)
    × (items l.out ++ pairs (chunks_rest l.part-iterator) ≡ items l.fn.out ++ pairs l.bytes)
