-- How a line of a run is read: a definition that computes. What it means stands in `ReadsCall`.
use Rattle.std.specs.Prelude.{◌≡◌, ℕ, cond, ◌⊎◌, List, [], ◌∷◌, Some, None, Ok, Err, codes, Option, Result}
use Rattle.std.specs.Option.{option_map}
use Rattle.std.specs.Str.{bytes_eq}
use Rattle.interfaces.specs.declared.fault.Refusal.{Refusal}
use Rattle.interfaces.specs.Faults.{call_refusal, form_refusal}
use Rattle.text.specs.Cut.{fields}
use Rattle.text.specs.Pairs.{unpaired}
use Rattle.policy.specs.Reading.{judged, parse_assertion, thence}
use Rattle.calls.specs.Calls.{Call, assert, or, call_flaw, IsCall}

-- Fields that are all byte strings.
abbrev pub unpaired_all : List (List ℕ) → Option (List (List ℕ))
unpaired_all [] = Some []
unpaired_all (f ∷ fs) = thence (unpaired f) (λ d. thence (unpaired_all fs) (λ ds. Some (d ∷ ds)))

-- A call by its word and fields.
abbrev pub parse_call_word : List ℕ → List (List ℕ) → Option Call
parse_call_word w fs = cond (bytes_eq w (codes "or")) (option_map or (unpaired_all fs)) (option_map assert (parse_assertion w fs))

abbrev pub parse_call_fields : List (List ℕ) → Option Call
parse_call_fields [] = None
parse_call_fields (w ∷ fs) = parse_call_word w fs

-- The call that s has the form of; none where it has no call's form.
abbrev pub parse_call : List ℕ → Option Call
parse_call s = parse_call_fields (fields s)

-- The refusal of a call that has its form, by itself.
abbrev pub call_line_flaw : ℕ → Call → Option Refusal
call_line_flaw size c = option_map call_refusal (call_flaw size c)

-- A line of a run as it is read: form first, then the checks of its fields.
abbrev pub read_call : ℕ → List ℕ → Result Call Refusal
read_call size s = judged (call_line_flaw size) (parse_call s)

-- What reading a line means, in terms of how calls are written. A call read is so written, and its
-- checks pass; a call that is so written is refused by its own first check; any other text is no call.
abbrev pub ReadsCall : ℕ → List ℕ → Result Call Refusal → Type 0
ReadsCall size s (Ok c) = IsCall s c × (call_line_flaw size c ≡ None)
ReadsCall size s (Err e) = ((c : Call) × IsCall s c × (call_line_flaw size c ≡ Some e)) ⊎ ((e ≡ form_refusal) × ((c : Call) → IsCall s c → ⊥))
