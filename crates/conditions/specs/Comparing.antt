-- How two byte strings of one length compare, by each of the twelve operations.
use Rattle.std.specs.Prelude.{ℕ, suc, ◌+◌, ◌-◌, ◌*◌, ◌^◌, Bool, true, false, cond, not, ◌&&◌, List, [], ◌∷◌, length, ℤ, pos, negsuc, ◌==◌, bit_and, int_lt, nat_le, nat_lt, slice_index, slice_index_or}
use Rattle.std.specs.Str.{bytes_eq}

-- The number that a byte string stands for, most significant byte first, behind the digits n.
abbrev pub unsigned_from : ℕ → List ℕ → ℕ
unsigned_from n [] = n
unsigned_from n (b ∷ bs) = unsigned_from (n * 256 + b) bs

abbrev pub unsigned : List ℕ → ℕ
unsigned bs = unsigned_from 0 bs

-- The top bit of the first byte is the sign.
abbrev pub negative : List ℕ → Bool
negative bs = nat_le 128 (slice_index bs 0)

-- Two's complement of the whole length: with the sign set, the number less 256 to the power of the
-- length. (`negsuc n` is -(n + 1).)
abbrev pub signed : List ℕ → ℤ
signed bs = cond (negative bs) (negsuc (256 ^ length bs - suc (unsigned bs))) (pos (unsigned bs))

-- All bits that are set in b are set in a; all of them are clear in a.
abbrev pub bits_set : List ℕ → List ℕ → Bool
bits_set [] bs = true
bits_set (a ∷ more) [] = true
bits_set (a ∷ more) (b ∷ bs) = bit_and a b == b && bits_set more bs

abbrev pub bits_clear : List ℕ → List ℕ → Bool
bits_clear [] bs = true
bits_clear (a ∷ more) [] = true
bits_clear (a ∷ more) (b ∷ bs) = bit_and a b == 0 && bits_clear more bs

-- What each operation says of a against b, in the order of the operations' numbers: equal, not equal,
-- then greater, less, greater or equal, less or equal, each signed and then unsigned, then the bits.
abbrev pub outcomes : List ℕ → List ℕ → List Bool
outcomes a b =
    bytes_eq a b ∷ not (bytes_eq a b) ∷
    int_lt (signed b) (signed a) ∷ nat_lt (unsigned b) (unsigned a) ∷
    int_lt (signed a) (signed b) ∷ nat_lt (unsigned a) (unsigned b) ∷
    not (int_lt (signed a) (signed b)) ∷ nat_le (unsigned b) (unsigned a) ∷
    not (int_lt (signed b) (signed a)) ∷ nat_le (unsigned a) (unsigned b) ∷
    bits_set a b ∷ bits_clear a b ∷ []

abbrev pub compares : ℕ → List ℕ → List ℕ → Bool
compares operation a b = slice_index_or (outcomes a b) operation false
