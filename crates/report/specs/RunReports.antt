-- What is printed of a run over a state block.
use Rattle.std.specs.Prelude.{ℕ, Bool, true, cond, List, [], ◌∷◌, ◌++◌, Some, None, Ok, Err, codes, decimal, Option, Result}
use Rattle.interfaces.specs.declared.code.Code.{Code}
use Rattle.interfaces.specs.declared.fault.Fault.{Fault}
use Rattle.interfaces.specs.Faults.{call_refusal, fault_at}
use Rattle.interfaces.specs.Hashing.{Hashing}
use Rattle.text.specs.Pairs.{pairs}
use Rattle.policy.specs.Lines.{be4}
use Rattle.block.specs.Layout.{block_flaw, block_snapshot}
use Rattle.session.specs.Runs.{run_after, run_answer}
use Rattle.session.specs.Steps.{Progress, fresh}
use Rattle.report.specs.Reports.{labelled, shown_fault}

-- A record, or that there is none.
abbrev pub shown_record : List ℕ → (ℕ → List ℕ) → Option ℕ → List ℕ
shown_record word shown None = labelled word (codes "none")
shown_record word shown (Some n) = labelled word (shown n)

abbrev pub shown_need : List ℕ → Bool → List ℕ
shown_need word needed = labelled word (cond needed (codes "yes") (codes "no"))

-- The session: its digest and its five records.
abbrev pub shown_progress : Progress → List ℕ
shown_progress p =
    labelled (codes "digest") (pairs p.digest)
    ++ shown_record (codes "count") decimal p.count
    ++ shown_record (codes "command") (λ code. pairs (be4 code)) p.command
    ++ shown_record (codes "localities") (λ set. pairs (set ∷ [])) p.localities
    ++ shown_need (codes "presence") p.presence
    ++ shown_need (codes "password") p.password

abbrev pub shown_lines : Result ℕ Fault → List ℕ
shown_lines (Ok n) = labelled (codes "lines") (decimal n)
shown_lines (Err f) = shown_fault f

abbrev pub shown_run_over : Option Code → Hashing → List ℕ → List ℕ → List ℕ
shown_run_over None h bs text = shown_lines (run_answer true h (block_snapshot bs) text (fresh h)) ++ shown_progress (run_after true h (block_snapshot bs) text (fresh h))
shown_run_over (Some c) h bs text = shown_fault (fault_at 0 (call_refusal c))

-- The report on a run of a text on a fresh policy session over a state block: its number of lines or its
-- fault, and the session after it; or the refusal of the block.
abbrev pub run_report : Hashing → List ℕ → List ℕ → List ℕ
run_report h bs text = shown_run_over (block_flaw bs) h bs text
