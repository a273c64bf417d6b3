-- Fields decoded into digests.
use Rattle.std.specs.Prelude.{◌≡◌, ℕ, ◌<◌, true, false, ◌⊎◌, List, map, length, Some, Option, MatchOption}
use Rattle.arrays.specs.declared.array_vec.ArrayVec.{ArrayVec}
use Rattle.arrays.specs.Items.{items}
use Rattle.interfaces.specs.declared.digest.Digest.{Digest}
use Rattle.interfaces.specs.Hashing.{digest_length}
use Rattle.policy.specs.Views.{digest_bytes}
use Rattle.calls.specs.Calls.{all_sized}
use Rattle.calls.specs.Limits.{most_digests}
use Rattle.calls.specs.Reading.{unpaired_all}

-- The fields are these digests.
pub record Filled (fs ds : List (List ℕ)) : Type 0 where
  pub sized : all_sized digest_length ds ≡ true
  pub decoded : unpaired_all fs ≡ Some ds

-- Fields that are byte strings are too many, or one of them is no digest.
abbrev pub Unfit : List (List ℕ) → Type 0
Unfit fs = (ds : List (List ℕ)) → unpaired_all fs ≡ Some ds → (most_digests < length ds) ⊎ (all_sized digest_length ds ≡ false)

-- Filling answers the digests that the fields are, or none.
abbrev pub Fills : List (List ℕ) → Option (ArrayVec Digest most_digests) → Type 0
Fills fs r = MatchOption r (Unfit fs) (λ a. Filled fs (map digest_bytes (items a)))
