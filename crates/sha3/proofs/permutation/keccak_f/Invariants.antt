use Rattle.std.proofs.Common.{◌≡◌, take, fold}
use Rattle.sha3.specs.Keccak.{Rnd, constants}
use Rattle.sha3.proofs.permutation.keccak_f.Given as goal

abbrev pub invariant-loop-constant : goal.invariant-loop-constant
invariant-loop-constant l = l.s ≡ fold Rnd l.initial.s (take l.constant-index (constants 24 0))
