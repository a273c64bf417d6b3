-- The numbers and words by which codes and layers go outside: the one definition of each.
use Rattle.std.specs.Prelude.{ℕ, List, codes}
use Rattle.interfaces.specs.declared.code.Code.{Code}
use Rattle.interfaces.specs.declared.code.Code.TheVariants.{Value, Handle, Range, AuthFail, Pp, Size, PolicyFail, PolicyCc, Policy, PcrChanged, NvRange, Memory, Locality, Lockout}
use Rattle.interfaces.specs.declared.fault.Layer.{Layer}
use Rattle.interfaces.specs.declared.fault.Layer.TheVariants.{Text, State, Call}

-- A code's number, after TPM 2.0's response codes.
abbrev pub code_number : Code → ℕ
code_number Value = 0x084
code_number Handle = 0x08b
code_number Range = 0x08d
code_number AuthFail = 0x08e
code_number Pp = 0x090
code_number Size = 0x095
code_number PolicyFail = 0x09d
code_number PolicyCc = 0x0a4
code_number Policy = 0x126
code_number PcrChanged = 0x128
code_number NvRange = 0x146
code_number Memory = 0x904
code_number Locality = 0x907
code_number Lockout = 0x921

-- A layer's number; 0 stands for no fault.
abbrev pub layer_number : Layer → ℕ
layer_number Text = 1
layer_number State = 2
layer_number Call = 3

-- A layer's word in a program's output.
abbrev pub layer_word : Layer → List ℕ
layer_word Text = codes "text"
layer_word State = codes "state"
layer_word Call = codes "call"
