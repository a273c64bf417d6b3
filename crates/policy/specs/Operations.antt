-- The numbers of the operations, after TPM 2.0: the one definition.
use Rattle.std.specs.Prelude.{ℕ}
use Rattle.policy.specs.declared.operation.Operation.{Operation}
use Rattle.policy.specs.declared.operation.Operation.TheVariants.{Equal, NotEqual, SignedGreater, UnsignedGreater, SignedLess, UnsignedLess, SignedGreaterOrEqual, UnsignedGreaterOrEqual, SignedLessOrEqual, UnsignedLessOrEqual, BitsSet, BitsClear}

abbrev pub operation_number : Operation → ℕ
operation_number Equal = 0
operation_number NotEqual = 1
operation_number SignedGreater = 2
operation_number UnsignedGreater = 3
operation_number SignedLess = 4
operation_number UnsignedLess = 5
operation_number SignedGreaterOrEqual = 6
operation_number UnsignedGreaterOrEqual = 7
operation_number SignedLessOrEqual = 8
operation_number UnsignedLessOrEqual = 9
operation_number BitsSet = 10
operation_number BitsClear = 11
