-- The functions on 32-bit words of SHA-256 (FIPS 180-4, sections 2.2.2, 3.2 and 4.1.2). A word is
-- a number below 2 ^ 32; at larger numbers the functions are total, and of no interest.
use Rattle.std.specs.Prelude.{ℕ, ◌-◌, ◌*◌, ◌/◌, ◌%◌, ◌^◌, bit_and, bit_or, bit_xor}

-- Right shift: the n lowest bits fall off.
unfoldable pub SHR : ℕ → ℕ → ℕ
SHR n x = x / 2 ^ n

-- Rotate right: the n lowest bits come back on the left.
unfoldable pub ROTR : ℕ → ℕ → ℕ
ROTR n x = bit_or (x / 2 ^ n) ((x * 2 ^ (32 - n)) % 2 ^ 32)

-- Every bit of the word turned.
unfoldable pub complement : ℕ → ℕ
complement x = (2 ^ 32 - 1) - x

-- Choose: each bit of x picks that of y or, where it is 0, that of z.
unfoldable pub Ch : ℕ → ℕ → ℕ → ℕ
Ch x y z = bit_xor (bit_and x y) (bit_and (complement x) z)

-- Majority: each bit is the one that two of the three have.
unfoldable pub Maj : ℕ → ℕ → ℕ → ℕ
Maj x y z = bit_xor (bit_xor (bit_and x y) (bit_and x z)) (bit_and y z)

-- The two mixing functions of a round.
unfoldable pub Σ0 : ℕ → ℕ
Σ0 x = bit_xor (bit_xor (ROTR 2 x) (ROTR 13 x)) (ROTR 22 x)

unfoldable pub Σ1 : ℕ → ℕ
Σ1 x = bit_xor (bit_xor (ROTR 6 x) (ROTR 11 x)) (ROTR 25 x)

-- The two mixing functions of the message schedule.
unfoldable pub σ0 : ℕ → ℕ
σ0 x = bit_xor (bit_xor (ROTR 7 x) (ROTR 18 x)) (SHR 3 x)

unfoldable pub σ1 : ℕ → ℕ
σ1 x = bit_xor (bit_xor (ROTR 17 x) (ROTR 19 x)) (SHR 10 x)
