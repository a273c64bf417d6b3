use Rattle.std.proofs.Common.{◌≡◌, true, map, take}
use Rattle.arrays.specs.Items.{items}
use Rattle.interfaces.specs.Hashing.{digest_length}
use Rattle.policy.specs.Views.{digest_bytes}
use Rattle.calls.specs.Calls.{all_sized}
use Rattle.calls.proofs.call.Call.or.Given as goal

abbrev pub invariant-loop-digest : goal.invariant-loop-digest
invariant-loop-digest l = record {
  filled : map digest_bytes (items l.all) ≡ map (λ x. x.now) (take l.digest-index l.digests);
  sized : all_sized digest_length (map digest_bytes (items l.all)) ≡ true;
}
