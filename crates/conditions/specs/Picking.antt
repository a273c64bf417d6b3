-- The PCRs that a selection picks.
use Rattle.std.specs.Prelude.{ℕ, ◌+◌, ◌*◌, ◌/◌, ◌%◌, ◌^◌, Bool, cond, List, [], ◌==◌, slice_index, slice_index_or}
use Rattle.std.specs.List.{range_with_len, flat_map}

-- The number of selection bytes, and of the bits of each.
abbrev pub selection_length : ℕ
selection_length = 3

abbrev pub byte_bits : ℕ
byte_bits = 8

-- Bit i of a byte, the lowest being 0.
abbrev pub bit : ℕ → ℕ → Bool
bit b i = b / 2 ^ i % 2 == 1

-- The PCR of bit i of byte j, if it is picked.
abbrev pub picked_at : List ℕ → List (List ℕ) → ℕ → ℕ → List ℕ
picked_at selection pcrs j i = cond (bit (slice_index selection j) i) (slice_index_or pcrs (byte_bits * j + i) []) []

-- The values of the PCRs picked, joined in rising order.
abbrev pub picked_in : List ℕ → List (List ℕ) → ℕ → List ℕ
picked_in selection pcrs j = flat_map (picked_at selection pcrs j) (range_with_len 0 byte_bits)

abbrev pub picked : List ℕ → List (List ℕ) → List ℕ
picked selection pcrs = flat_map (picked_in selection pcrs) (range_with_len 0 selection_length)
