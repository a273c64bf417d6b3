-- A hash's answer as a number.
use Rattle.std.specs.Prelude.{ℕ, Ok, Err, Result}
use Rattle.interfaces.specs.declared.code.Code.{Code}
use Rattle.interfaces.specs.Numbers.{code_number}

-- 0 where hashing succeeded, else the code's number.
abbrev pub code_or_zero : Result (Unit {0}) Code → ℕ
code_or_zero (Ok u) = 0
code_or_zero (Err c) = code_number c
