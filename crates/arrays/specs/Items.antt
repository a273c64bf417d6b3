-- Up to N items in a fixed array, as the list of the items.
use Rattle.std.specs.Prelude.{◌≡◌, ℕ, ◌+◌, ◌<◌, ◌≤◌, List, ◌++◌, length, take, Result, MatchResult}
use Rattle.arrays.specs.declared.array_vec.ArrayVec.{ArrayVec}
use Rattle.arrays.specs.declared.array_vec.Full.{Full}

-- The items, in order; what lies behind them means nothing.
abbrev pub items : {T : Type 0} {N : ℕ} → ArrayVec T N → List T
items v = take v.len v.all

module _ {T : Type 0} (room : ℕ) (old more : List T) where
  -- All of `more` stands behind the old items.
  pub record Behind (new : List T) : Type 0 where
    pub within : length old + length more ≤ room
    pub joined : new ≡ old ++ more

  -- There is no room for all of `more`, and nothing changed.
  pub record NoRoom (new : List T) : Type 0 where
    pub over : room < length old + length more
    pub same : new ≡ old

  -- What putting `more` behind the old items answered and left.
  abbrev pub Puts : Result (Unit {0}) Full → List T → Type 0
  Puts r new = MatchResult r (λ _. Behind new) (λ _. NoRoom new)
