-- What the C firmware is told.
use Rattle.std.specs.Prelude.{Ok, Err, Result}
use Rattle.interfaces.specs.declared.fault.Fault.{Fault}
use Rattle.interfaces.specs.Numbers.{code_number, layer_number}
use Rattle.tree.specs.declared.summary.Summary.{Summary}
use Rattle.firmware.specs.declared.answer.Answer.{Answer}

-- The answer in numbers; layer 0 says that there is no fault.
abbrev pub in_numbers : Result Summary Fault → Answer
in_numbers (Ok s) = record { lines = s.lines; branches = s.branches; line = 0; layer = 0; code = 0 }
in_numbers (Err f) = record { lines = 0; branches = 0; line = f.line; layer = layer_number f.layer; code = code_number f.code }
