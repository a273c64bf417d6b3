-- Assertions read from a line's fields.
use Rattle.std.specs.Prelude.{ℕ, List, Option, Result}
use Rattle.std.specs.Option.{option_map}
use Rattle.interfaces.specs.declared.code.Code.{Code}
use Rattle.interfaces.specs.declared.fault.Refusal.{Refusal}
use Rattle.interfaces.specs.Faults.{call_refusal}
pub use Rattle.interfaces.specs.Checks.{refused_with}
use Rattle.interfaces.specs.Hashing.{digest_length}
use Rattle.policy.specs.Assertions.{Comparison, Assertion}
use Rattle.policy.specs.Checks.{flaw, comparison_flaw}
use Rattle.policy.specs.Lines.{Line, line_flaw}
use Rattle.policy.specs.Reading.{judged}

-- The refusal of an assertion's fields, as a line's.
abbrev pub call_flaw : Assertion → Option Refusal
call_flaw a = option_map call_refusal (flaw digest_length a)

-- Fields parsed so, and then judged.
abbrev pub read_as : (List (List ℕ) → Option Assertion) → List (List ℕ) → Result Assertion Refusal
read_as parse fs = judged call_flaw (parse fs)

-- A comparison whose fields have their form, judged.
abbrev pub judged_comparison : Comparison → Result Comparison Code
judged_comparison c = refused_with (comparison_flaw c) c

-- The fields of a policy text's line parsed so, and then judged.
abbrev pub read_line_as : (List (List ℕ) → Option Line) → List (List ℕ) → Result Line Refusal
read_line_as parse fs = judged (line_flaw digest_length) (parse fs)
