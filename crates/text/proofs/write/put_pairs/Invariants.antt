use Rattle.std.proofs.Common.{◌+◌, ◌*◌, length}
use Rattle.text.proofs.Spelling.{Spelled}
use Rattle.text.proofs.write.put_pairs.Given as goal

abbrev pub invariant-loop-i : goal.invariant-loop-i
invariant-loop-i l = Spelled l.initial.out l.at l.bytes l.i (l.at + 2 * length l.bytes) l.out
