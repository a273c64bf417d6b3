-- A run: the calls that the lines of a text stand for, up to the first refused one.
use Rattle.std.specs.Prelude.{ℕ, suc, Bool, cond, ◌&&◌, List, [], ◌∷◌, length, Some, None, Ok, Err, Option, Result, nat_le}
use Rattle.interfaces.specs.declared.code.Code.TheVariants.{Size}
use Rattle.interfaces.specs.declared.fault.Fault.{Fault}
use Rattle.interfaces.specs.declared.fault.Refusal.{Refusal}
use Rattle.interfaces.specs.Faults.{fault_at, text_refusal}
use Rattle.interfaces.specs.Hashing.{Hashing}
use Rattle.interfaces.specs.States.{Snapshot}
use Rattle.text.specs.Cut.{lines}
use Rattle.tree.specs.Texts.{text_limit, line_limit}
use Rattle.calls.specs.Calls.{Call}
use Rattle.calls.specs.Reading.{read_call}
use Rattle.session.specs.Steps.{Progress, refusal, stepped}

-- A text that may be run: it may also be empty.
abbrev pub run_fits : List ℕ → Bool
run_fits text = nat_le (length text) text_limit && nat_le (length (lines text)) line_limit

module _ (checked : Bool) (h : Hashing) (s : Snapshot) where
  -- The refusal of a line that was read so, and the session after it.
  abbrev pub read_refusal : Progress → Result Call Refusal → Option Refusal
  read_refusal p (Ok c) = refusal checked h s p c
  read_refusal p (Err e) = Some e

  abbrev pub read_after : Progress → Result Call Refusal → Progress
  read_after p (Ok c) = stepped checked h s p c
  read_after p (Err e) = p

  abbrev pub line_refusal : Progress → List ℕ → Option Refusal
  line_refusal p line = read_refusal p (read_call h.size line)

  abbrev pub line_after : Progress → List ℕ → Progress
  line_after p line = read_after p (read_call h.size line)

  -- What the lines behind the first n answer, and the session after them.
  abbrev pub or_fault : ℕ → Option Refusal → Result ℕ Fault → Result ℕ Fault
  or_fault n None later = later
  or_fault n (Some e) later = Err (fault_at n e)

  abbrev pub lines_answer : ℕ → List (List ℕ) → Progress → Result ℕ Fault
  lines_answer n [] p = Ok n
  lines_answer n (line ∷ more) p = or_fault (suc n) (line_refusal p line) (lines_answer (suc n) more (line_after p line))

  abbrev pub unless_refused : Option Refusal → Progress → Progress → Progress
  unless_refused None later p = later
  unless_refused (Some e) later p = p

  abbrev pub lines_after : List (List ℕ) → Progress → Progress
  lines_after [] p = p
  lines_after (line ∷ more) p = unless_refused (line_refusal p line) (lines_after more (line_after p line)) (line_after p line)

  -- A run of a text answers its number of lines, or its first fault; earlier lines stand.
  abbrev pub run_answer : List ℕ → Progress → Result ℕ Fault
  run_answer text p = cond (run_fits text) (lines_answer 0 (lines text) p) (Err (fault_at 0 (text_refusal Size)))

  abbrev pub run_after : List ℕ → Progress → Progress
  run_after text p = cond (run_fits text) (lines_after (lines text) p) p
