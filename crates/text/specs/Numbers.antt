-- Decimal fields.
use Rattle.std.specs.Prelude.{ℕ, ◌+◌, ◌-◌, ◌*◌, Bool, cond, ◌&&◌, List, [], ◌∷◌, Some, None, Option, ◌==◌, nat_le}

-- The largest decimal that a field may hold.
abbrev pub number_limit : ℕ
number_limit = 65535

abbrev pub is_digit : ℕ → Bool
is_digit c = nat_le 48 c && nat_le c 57

-- The value of the digits before, n, with this one behind them.
abbrev pub shifted : ℕ → ℕ → ℕ
shifted n c = n * 10 + (c - 48)

-- The number that the digits before, n, and these digits make, if it is within the limit.
abbrev pub digits_from : ℕ → List ℕ → Option ℕ
digits_from n [] = Some n
digits_from n (c ∷ cs) = cond (is_digit c && nat_le (shifted n c) number_limit) (digits_from (shifted n c) cs) None

-- A decimal field's number: some digits, no leading zero but for 0 itself, within the limit.
abbrev pub number : List ℕ → Option ℕ
number [] = None
number (c ∷ []) = digits_from 0 (c ∷ [])
number (c ∷ d ∷ cs) = cond (c == 48) None (digits_from 0 (c ∷ d ∷ cs))
