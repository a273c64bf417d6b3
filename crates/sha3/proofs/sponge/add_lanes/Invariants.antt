use Rattle.std.proofs.Common.{◌≡◌}
use Rattle.sha3.specs.Sha3.{added}
use Rattle.sha3.proofs.sponge.add_lanes.Given as goal

abbrev pub invariant-loop-i : goal.invariant-loop-i
invariant-loop-i l = l.s ≡ added l.i l.initial.s l.block
