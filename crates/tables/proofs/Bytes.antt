-- Bytes below 256, by places and as a whole.
use Rattle.std.proofs.Common.{ℕ, zero, suc, ◌<◌, List, [], ◌∷◌, get_or, replicate, lit<}
use Rattle.std.proofs.ByRecursion.{All-from_get_or}
use Rattle.interfaces.specs.Checks.{Bytes}

abbrev pub Small : List ℕ → Type 0
Small bs = (k : ℕ) → get_or bs k 0 < 256

pub zeros-small : (n : ℕ) → Small (replicate n 0)
zeros-small zero k = lit< tt
zeros-small (suc n) zero = lit< tt
zeros-small (suc n) (suc k) = zeros-small n k

pub small_bytes : (bs : List ℕ) → Small bs → Bytes bs
small_bytes bs h = All-from_get_or (λ b. b < 256) bs 0 (λ i _. h i)

pub bytes_small : (bs : List ℕ) → Bytes bs → Small bs
bytes_small [] h k = lit< tt
bytes_small (b ∷ bs) h zero = h.0
bytes_small (b ∷ bs) h (suc k) = bytes_small bs h.1 k
