use Rattle.std.proofs.Common.{◌≡◌, ◌*◌, length, take}
use Rattle.std.specs.List.{flat_map}
use Rattle.arrays.specs.Items.{items}
use Rattle.sha256.specs.Sha256.{word_bytes}
use Rattle.sha256.proofs.message.digest.Given as goal

abbrev pub invariant-loop-word : goal.invariant-loop-word
invariant-loop-word l =
    (length (items l.digest) ≡ 4 * l.word-index) × (items l.digest ≡ flat_map word_bytes (take l.word-index l.word-items))
