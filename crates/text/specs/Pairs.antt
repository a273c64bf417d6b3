-- Byte strings written as lower-case hexadecimal digit pairs.
use Rattle.std.specs.Prelude.{ℕ, ◌+◌, ◌-◌, ◌*◌, ◌/◌, ◌%◌, cond, ◌&&◌, List, [], ◌∷◌, length, Some, None, Option, ◌==◌, nat_le, nat_lt}

-- The digit of a value below 16.
abbrev pub hex_digit : ℕ → ℕ
hex_digit v = cond (nat_lt v 10) (48 + v) (87 + v)

-- A byte string as digit pairs.
abbrev pub pairs : List ℕ → List ℕ
pairs [] = []
pairs (b ∷ bs) = hex_digit (b / 16) ∷ hex_digit (b % 16) ∷ pairs bs

-- The value of a lower-case digit.
abbrev pub hex_value : ℕ → Option ℕ
hex_value c = cond (nat_le 48 c && nat_le c 57) (Some (c - 48)) (cond (nat_le 97 c && nat_le c 102) (Some (c - 87)) None)

-- A byte of two digits, in front of the bytes that follow.
abbrev pub paired_with : Option ℕ → Option ℕ → Option (List ℕ) → Option (List ℕ)
paired_with None y bs = None
paired_with (Some x) None bs = None
paired_with (Some x) (Some y) None = None
paired_with (Some x) (Some y) (Some bs) = Some ((x * 16 + y) ∷ bs)

-- The byte string that a field stands for; none where the field is no lower-case digit pairs.
abbrev pub unpaired : List ℕ → Option (List ℕ)
unpaired [] = Some []
unpaired (x ∷ []) = None
unpaired (x ∷ y ∷ cs) = paired_with (hex_value x) (hex_value y) (unpaired cs)

-- That byte string, if it has n bytes.
abbrev pub of_length : ℕ → Option (List ℕ) → Option (List ℕ)
of_length n None = None
of_length n (Some bs) = cond (length bs == n) (Some bs) None
