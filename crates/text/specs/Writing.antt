-- Writing into a buffer from a place on.
use Rattle.std.specs.Prelude.{◌≡◌, ℕ, ◌+◌, ◌<◌, ◌≤◌, List, ◌++◌, length, take, drop, Option, MatchOption}

-- `more` stands behind the first `at` bytes of the buffer, which are as they were, up to `end`;
-- what lies behind is as it was.
pub record Placed (out : List ℕ) (at : ℕ) (more : List ℕ) (end : ℕ) (out' : List ℕ) : Type 0 where
  pub ends : end ≡ at + length more
  pub within : end ≤ length out
  pub front : take end out' ≡ take at out ++ more
  pub back : drop end out' ≡ drop end out

-- Nothing was written, since `more` does not fit.
pub record Full (out : List ℕ) (at : ℕ) (more out' : List ℕ) : Type 0 where
  pub over : length out < at + length more
  pub same : out' ≡ out

-- Writing `more` from `at` on answers where it ends, or none where it does not fit.
abbrev pub Wrote : List ℕ → ℕ → List ℕ → Option ℕ → List ℕ → Type 0
Wrote out at more r out' = MatchOption r (Full out at more out') (λ end. Placed out at more end out')
