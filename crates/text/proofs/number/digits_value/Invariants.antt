use Rattle.text.proofs.Digits.{SoFar}
use Rattle.text.proofs.number.digits_value.Given as goal

abbrev pub invariant-loop-c : goal.invariant-loop-c
invariant-loop-c l = SoFar l.s l.c-index l.n
