-- Lanes and states of Keccak (FIPS 202, sections 3.1 and 3.2). A lane is a number below 2 ^ 64,
-- whose bit z is the bit z of the lane; at larger numbers the functions are total, and of no interest.
use Rattle.std.specs.Prelude.{ℕ, ◌+◌, ◌-◌, ◌*◌, ◌/◌, ◌%◌, ◌^◌, List, [], ◌∷◌, ◌++◌, bit_or, slice_index}

-- Rotate left by n modulo 64: the highest bits come back on the right.
abbrev pub ROTL : ℕ → ℕ → ℕ
ROTL n x = bit_or ((x * 2 ^ (n % 64)) % 2 ^ 64) (x / 2 ^ ((64 - n % 64) % 64))

-- Every bit of the lane turned.
abbrev pub complement : ℕ → ℕ
complement x = (2 ^ 64 - 1) - x

-- A plane: the lanes at x from 0 to 4.
abbrev pub plane : (ℕ → ℕ) → List ℕ
plane f = f 0 ∷ f 1 ∷ f 2 ∷ f 3 ∷ f 4 ∷ []

-- A state: the planes at y from 0 to 4, one after another.
abbrev pub state : (ℕ → ℕ → ℕ) → List ℕ
state f =
    plane (λ x. f x 0) ++ (plane (λ x. f x 1) ++ (plane (λ x. f x 2) ++ (plane (λ x. f x 3) ++ plane (λ x. f x 4))))

-- The lane A[x] of a plane, x modulo 5.
abbrev pub lane : List ℕ → ℕ → ℕ
lane a x = slice_index a (x % 5)

-- The lane A[x, y] of a state, x and y modulo 5.
abbrev pub lane_at : List ℕ → ℕ → ℕ → ℕ
lane_at a x y = slice_index a (5 * (y % 5) + x % 5)
