use Rattle.text.proofs.Hex.{Digits}
use Rattle.text.proofs.pairs.pair_count.Given as goal

abbrev pub invariant-loop-c : goal.invariant-loop-c
invariant-loop-c l = Digits l.field l.c-index
