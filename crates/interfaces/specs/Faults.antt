-- Refusals, and the faults that they become at a line.
use Rattle.std.specs.Prelude.{ℕ}
use Rattle.interfaces.specs.declared.code.Code.{Code}
use Rattle.interfaces.specs.declared.code.Code.TheVariants.{Value}
use Rattle.interfaces.specs.declared.fault.Layer.{Layer}
use Rattle.interfaces.specs.declared.fault.Layer.TheVariants.{Text, State, Call}
use Rattle.interfaces.specs.declared.fault.Refusal.{Refusal}
use Rattle.interfaces.specs.declared.fault.Fault.{Fault}

-- A refusal by this part of the chest.
abbrev pub refusal_of : Layer → Code → Refusal
refusal_of l c = record { layer = l; code = c }

-- The line has none of the forms that its text allows, or the stack does not allow it.
abbrev pub form_refusal : Refusal
form_refusal = record { layer = Text; code = Value }

-- The text is refused with this code.
abbrev pub text_refusal : Code → Refusal
text_refusal c = record { layer = Text; code = c }

-- The call that the line stands for is refused with this code.
abbrev pub call_refusal : Code → Refusal
call_refusal c = record { layer = Call; code = c }

-- The reader state refused with this code what the line's call asked of it.
abbrev pub state_refusal : Code → Refusal
state_refusal c = record { layer = State; code = c }

-- The refusal at a line, counted from 1; line 0 is outside all lines.
abbrev pub fault_at : ℕ → Refusal → Fault
fault_at n r = record { line = n; layer = r.layer; code = r.code }
