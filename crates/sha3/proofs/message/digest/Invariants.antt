use Rattle.std.proofs.Common.{◌≡◌, ◌*◌, length, take}
use Rattle.std.specs.List.{flat_map}
use Rattle.arrays.specs.Items.{items}
use Rattle.sha3.specs.Sha3.{lane_bytes}
use Rattle.sha3.proofs.message.digest.Given as goal

abbrev pub invariant-loop-lane : goal.invariant-loop-lane
invariant-loop-lane l =
    (length (items l.digest) ≡ 8 * l.lane-index) × (items l.digest ≡ flat_map lane_bytes (take l.lane-index l.lane-items))
