-- The permutation Keccak-f[1600] (FIPS 202, sections 3.2 to 3.4).
use Rattle.std.specs.Prelude.{ℕ, zero, suc, ◌+◌, ◌*◌, ◌%◌, ◌^◌, cond, List, [], ◌∷◌, fold, bit_and, bit_xor, nat_lt, slice_index, slice_set}
use Rattle.sha3.specs.Lanes.{ROTL, complement, state, lane_at}

-- C[x]: the lanes at x added bit by bit, the parities of their columns.
abbrev pub C : List ℕ → ℕ → ℕ
C a x =
    bit_xor (bit_xor (bit_xor (bit_xor (lane_at a x 0) (lane_at a x 1)) (lane_at a x 2)) (lane_at a x 3)) (lane_at a x 4)

-- D[x]: the parities at x - 1, and those at x + 1 rotated by one.
abbrev pub D : List ℕ → ℕ → ℕ
D a x = bit_xor (C a (x + 4)) (ROTL 1 (C a (x + 1)))

-- θ adds to each lane the parities of columns beside it.
abbrev pub θ : List ℕ → List ℕ
θ a = state (λ x y. bit_xor (lane_at a x y) (D a x))

-- By how much ρ rotates the lanes, a line for each plane.
abbrev pub offsets : List ℕ
offsets =
    0 ∷ 1 ∷ 190 ∷ 28 ∷ 91 ∷
    36 ∷ 300 ∷ 6 ∷ 55 ∷ 276 ∷
    3 ∷ 10 ∷ 171 ∷ 153 ∷ 231 ∷
    105 ∷ 45 ∷ 15 ∷ 21 ∷ 136 ∷
    210 ∷ 66 ∷ 253 ∷ 120 ∷ 78 ∷ []

-- ρ rotates each lane by its offset.
abbrev pub ρ : List ℕ → List ℕ
ρ a = state (λ x y. ROTL (lane_at offsets x y) (lane_at a x y))

-- π moves the lanes: the one at (x + 3 y, x) comes to (x, y).
abbrev pub π : List ℕ → List ℕ
π a = state (λ x y. lane_at a (x + 3 * y) x)

-- What χ makes of three lanes in a row: p, turned where q is 0 and r is 1.
abbrev pub turned : ℕ → ℕ → ℕ → ℕ
turned p q r = bit_xor p (bit_and (complement q) r)

-- χ turns bits of each lane by the next two of its plane.
abbrev pub χ : List ℕ → List ℕ
χ a = state (λ x y. turned (lane_at a x y) (lane_at a (x + 1) y) (lane_at a (x + 2) y))

-- ι adds the constant k of the round to the first lane.
abbrev pub ι : ℕ → List ℕ → List ℕ
ι k a = slice_set a 0 (bit_xor (slice_index a 0) k)

-- A round with its constant k.
abbrev pub Rnd : List ℕ → ℕ → List ℕ
Rnd a k = ι k (χ (π (ρ (θ a))))

-- One step of the shift register R of eight bits, of which R[0] is the lowest bit of the number:
-- the bit that leaves at R[8] is added to R[0], R[4], R[5] and R[6].
abbrev pub shifted : ℕ → ℕ
shifted r = cond (nat_lt r 128) (2 * r) (bit_xor (2 * r) 0x171)

-- The register after t steps.
abbrev pub register : ℕ → ℕ
register zero = 1
register (suc t) = shifted (register t)

-- The bit rc(t).
abbrev pub rc : ℕ → ℕ
rc t = register (t % 255) % 2

-- The constant of the round i: its bit 2 ^ j - 1 is rc(j + 7 i), for j from 0 to 6.
abbrev pub RC : ℕ → ℕ
RC i =
    rc (7 * i) * 2 ^ 0 + rc (1 + 7 * i) * 2 ^ 1 + rc (2 + 7 * i) * 2 ^ 3 + rc (3 + 7 * i) * 2 ^ 7 +
    rc (4 + 7 * i) * 2 ^ 15 + rc (5 + 7 * i) * 2 ^ 31 + rc (6 + 7 * i) * 2 ^ 63

-- The constants of n rounds, from the round i on.
abbrev pub constants : ℕ → ℕ → List ℕ
constants zero i = []
constants (suc n) i = RC i ∷ constants n (suc i)

-- The permutation: 24 rounds.
unfoldable pub keccak_f : List ℕ → List ℕ
keccak_f a = fold Rnd a (constants 24 0)
