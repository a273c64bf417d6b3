-- What the code's values mean.
use Rattle.std.specs.Prelude.{ℕ, List}
pub use Rattle.interfaces.specs.Checks.{meant}
pub use Rattle.interfaces.specs.Views.{digest_bytes}
use Rattle.arrays.specs.Items.{items}
use Rattle.policy.specs.declared.operand.Operand.{Operand}
use Rattle.policy.specs.declared.assertion.GivenComparison.{GivenComparison}
use Rattle.policy.specs.declared.assertion.Comparison as code
use Rattle.policy.specs.declared.assertion.Assertion as code-assertion
use Rattle.policy.specs.declared.assertion.Assertion.TheVariants.{Pcr, Nv, Time, Locality, Command, Presence, Password}
use Rattle.policy.specs.declared.line.Line as code-line
use Rattle.policy.specs.declared.line.Line.TheVariants.{Start, Any, Extend}
use Rattle.policy.specs.Assertions.{Comparison, Assertion, pcr, nv, time, locality, command, presence, password}
use Rattle.policy.specs.Lines.{Line, start, any, extend}
use Rattle.policy.specs.Operations.{operation_number}

-- An operand's bytes.
abbrev pub operand_bytes : Operand → List ℕ
operand_bytes o = items o.bytes

-- A comparison as it is given.
abbrev pub given_of : GivenComparison → Comparison
given_of g = record { operand = g.operand.now; offset = g.offset; operation = g.operation }

abbrev pub comparison_of : code.Comparison → Comparison
comparison_of c = record { operand = operand_bytes c.operand; offset = c.offset; operation = operation_number c.operation }

abbrev pub assertion_of : code-assertion.Assertion → Assertion
assertion_of (Pcr s d) = pcr s.bytes d.bytes
assertion_of (Nv n c) = nv n.bytes (comparison_of c)
assertion_of (Time c) = time (comparison_of c)
assertion_of (Locality s) = locality s
assertion_of (Command k) = command k
assertion_of Presence = presence
assertion_of Password = password

abbrev pub line_of : code-line.Line → Line
line_of Start = start
line_of (Any n) = any n
line_of (Extend a) = extend (assertion_of a)
