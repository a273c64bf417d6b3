use Rattle.std.specs.Iterator.Adapters.{enumerate_source, enumerate_count}
use Rattle.tree.proofs.Along.{Along}
use Rattle.tree.proofs.stack.Stack.take_lines.Given as goal

abbrev pub invariant-loop-i : goal.invariant-loop-i
invariant-loop-i g l =
    (goal.iterator-loop-i g).can_next l.i-iterator
    × (goal.iterator-loop-i g).is_finite l.i-iterator
    × Along (g.H.Hash.meaning l.hash) l.text (enumerate_source l.i-iterator).rest.now (enumerate_count l.i-iterator) l.self
