-- A message, taken in block by block.
use Rattle.std.specs.Prelude.{ℕ, List, fold}
use Rattle.std.specs.Simd.{first_chunks}

-- The state s after the first n blocks of m, each of `size` bytes, where `step` says what a block
-- makes of a state.
unfoldable pub absorb : {S : Type 0} → (S → List ℕ → S) → ℕ → ℕ → List ℕ → S → S
absorb step size n m s = fold step s (first_chunks size n m)
