use Rattle.std.proofs.Common.{◌≡◌, ◌+◌, ◌*◌, ◌++◌, length, take}
use Rattle.std.specs.List.{flat_map}
use Rattle.arrays.specs.Items.{items}
use Rattle.interfaces.specs.Hashing.{digest_length}
use Rattle.policy.specs.Views.{digest_bytes}
use Rattle.policy.proofs.extend.append_digests.Given as goal

abbrev pub invariant-loop-digest : goal.invariant-loop-digest
invariant-loop-digest g l = record {
  long : length (items l.text) ≡ length (items l.fn.text) + digest_length * l.digest-index;
  joined : items l.text ≡ items l.fn.text ++ flat_map digest_bytes (take l.digest-index l.digests);
}
