-- The checks of an assertion's own fields, which are made wherever one is read or called, in their
-- order.
use Rattle.std.specs.Prelude.{ℕ, ◌&&◌, List, length, None, Option, ◌==◌, nat_le}
use Rattle.interfaces.specs.declared.code.Code.{Code}
use Rattle.interfaces.specs.declared.code.Code.TheVariants.{Size, Value, Range}
pub use Rattle.interfaces.specs.Checks.{first, unless}
pub use Rattle.interfaces.specs.States.{name_length}
use Rattle.policy.specs.Assertions.{Comparison, Assertion, pcr, nv, time, locality, command, presence, password}

-- The longest operand.
abbrev pub operand_limit : ℕ
operand_limit = 64

-- The last of the twelve operations, which are numbered from 0.
abbrev pub last_operation : ℕ
last_operation = 11

-- The set of all localities, 0 to 4.
abbrev pub all_localities : ℕ
all_localities = 0x1f

-- An operand has some bytes, and no more than the limit.
abbrev pub operand_flaw : List ℕ → Option Code
operand_flaw operand = unless (nat_le 1 (length operand) && nat_le (length operand) operand_limit) Size

-- The number is that of an operation.
abbrev pub operation_flaw : ℕ → Option Code
operation_flaw n = unless (nat_le n last_operation) Value

-- A comparison's operand is judged first, then its operation.
abbrev pub comparison_flaw : Comparison → Option Code
comparison_flaw c = first (operand_flaw c.operand) (operation_flaw c.operation)

-- The first refusal of an assertion's fields, where digests have `size` bytes.
abbrev pub flaw : ℕ → Assertion → Option Code
flaw size (pcr selection digest) = unless (length digest == size) Size
flaw size (nv name c) = first (unless (length name == name_length) Size) (comparison_flaw c)
flaw size (time c) = comparison_flaw c
flaw size (locality set) = unless (nat_le 1 set && nat_le set all_localities) Range
flaw size (command code) = None
flaw size presence = None
flaw size password = None
