-- What a policy can assert, as a line or a call states it, before its fields are judged.
use Rattle.std.specs.Prelude.{ℕ, List}

-- A comparison of a part of a stored value, or of the time info, with an operand: the operand's
-- bytes, where the part begins, and the number of the operation.
pub record Comparison : Type 0 where
  pub operand : List ℕ
  pub offset : ℕ
  pub operation : ℕ

pub data Assertion : Type 0 where
  -- the PCRs picked by the selection's three bytes hash to the digest
  pcr : List ℕ → List ℕ → Assertion
  -- the value stored under the Name compares
  nv : List ℕ → Comparison → Assertion
  -- the time info compares
  time : Comparison → Assertion
  -- the locality is one of the set, a byte with a bit for each
  locality : ℕ → Assertion
  -- the command that uses the session has this code
  command : ℕ → Assertion
  -- a person shows presence
  presence : Assertion
  -- the book's password is given
  password : Assertion
