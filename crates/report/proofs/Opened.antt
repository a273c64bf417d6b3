-- What an opening leaves, and what is shown of refused files.
use Rattle.std.proofs.Common.{◌≡◌, ℕ, ◌≤◌, List, ◌++◌, length, take, Some, None, Ok, Err, IfOk, Option, Result, ap, ◌∙◌, arith, append_assoc}
use Rattle.std.proofs.lemmas.List.{length-append}
use Rattle.std.proofs.Math.Seq.{take-append_seam}
use Rattle.interfaces.specs.declared.code.Code.{Code}
use Rattle.interfaces.specs.Checks.{counted, first, left_in, meant, refused_with}
use Rattle.interfaces.specs.Faults.{call_refusal, fault_at}
use Rattle.report.specs.OpeningReports.{shown_unless_refused}
use Rattle.report.specs.Reports.{shown_fault}

-- a refusal behind a first check that passes
pub later_refused : {A B : Type 0} (flaw later : Option Code) (a : A) (b : B) (code : Code) → flaw ≡ None → Err code ≡ refused_with later a → Err code ≡ refused_with (first flaw later) b
later_refused None None a b code n e = absurd (let z : ◌≡◌ {A = ℕ} 0 1 = cc in omega arith)
later_refused None (Some d) a b code n e = cc
later_refused (Some c) later a b code n e = absurd (let z : ◌≡◌ {A = ℕ} 0 1 = cc in omega arith)

pub files_refused : {A : Type 0} (flaw : Option Code) (given : A) (shown : List ℕ) (code : Code) → Err code ≡ refused_with flaw given → shown_fault (fault_at 0 (call_refusal code)) ≡ shown_unless_refused flaw shown
files_refused None given shown code e = absurd (let z : ◌≡◌ {A = ℕ} 0 1 = cc in omega arith)
files_refused (Some d) given shown code e = let same : code ≡ d = cc in ap (λ c. shown_fault (fault_at 0 (call_refusal c))) same

-- the buffer of an opening holds the content
pub record Written (room : ℕ) (buffer : List ℕ) (opened : Result ℕ Code) (content : Result (List ℕ) Code) : Type 0 where
  pub within : IfOk opened (λ n. n ≤ room)
  pub read : meant (λ n. take n buffer) opened ≡ content

pub written : (room : ℕ) (buffer : List ℕ) (opened : Result ℕ Code) (content : Result (List ℕ) Code) → length buffer ≡ room → opened ≡ counted content → buffer ≡ left_in room content → Written room buffer opened content
written room buffer (Ok n) (Ok bs) long answer left =
    let same : n ≡ length bs = cc in
    record {
      within = omega (arith, same, long, ap length left ∙ length-append bs _);
      read = ap Ok (ap (λ k. take k buffer) same ∙ ap (take (length bs)) left ∙ take-append_seam bs _);
    }
written room buffer (Ok n) (Err c) long answer left = absurd (let z : ◌≡◌ {A = ℕ} 0 1 = cc in omega arith)
written room buffer (Err c) (Ok bs) long answer left = absurd (let z : ◌≡◌ {A = ℕ} 0 1 = cc in omega arith)
written room buffer (Err c) (Err d) long answer left = record { within = tt; read = cc }

pub four_pieces : (a b c d : List ℕ) → ((a ++ b) ++ c) ++ d ≡ a ++ (b ++ c ++ d)
four_pieces a b c d = simp append_assoc
