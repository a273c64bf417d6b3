-- Bits set and clear, pair by pair.
use Rattle.std.proofs.Common.{◌≡◌, ℕ, ◌==◌, ◌&&◌, List, [], ◌∷◌, refl, ap}
use lib.Bits.{bit_and}
use Rattle.std.specs.List.{list_all, zip}
use Rattle.conditions.specs.Comparing.{bits_set, bits_clear}

pub all_set : (a b : List ℕ) → list_all (λ (p : ℕ × ℕ). bit_and p.0 p.1 == p.1) (zip a b) ≡ bits_set a b
all_set [] b = refl
all_set (x ∷ a) [] = refl
all_set (x ∷ a) (y ∷ b) = ap (λ r. bit_and x y == y && r) (all_set a b)

pub all_clear : (a b : List ℕ) → list_all (λ (p : ℕ × ℕ). bit_and p.0 p.1 == 0) (zip a b) ≡ bits_clear a b
all_clear [] b = refl
all_clear (x ∷ a) [] = refl
all_clear (x ∷ a) (y ∷ b) = ap (λ r. bit_and x y == 0 && r) (all_clear a b)
