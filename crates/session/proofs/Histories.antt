-- The accepted calls since the last clearing make the session that the events lead to, and each of
-- them passed its checks where it stood.
use Rattle.std.proofs.Common.{◌≡◌, ℕ, Bool, true, false, cond, List, [], ◌∷◌, Some, None, Ok, Err, Option, Result, refl, ap, ◌∙◌, subst}
use Rattle.std.specs.Option.{option_map}
use Rattle.std.specs.List.{AllByRecursion}
use Rattle.interfaces.specs.declared.code.Code.{Code}
use Rattle.interfaces.specs.declared.fault.Refusal.{Refusal}
use Rattle.interfaces.specs.Checks.{first, unless}
use Rattle.interfaces.specs.Faults.{call_refusal}
use Rattle.interfaces.specs.Hashing.{Hashing}
use Rattle.interfaces.specs.States.{Snapshot}
use Rattle.text.specs.Cut.{lines}
use Rattle.calls.specs.Calls.{Call, HoldsCall, call_flaw}
use Rattle.calls.specs.Reading.{ReadsCall, read_call}
use Rattle.calls.proofs.ReadsCalls.{reads}
use Rattle.session.specs.Books.{Book}
use Rattle.session.specs.Events.{Event, called, ran, restarted, opened, progress_after}
use Rattle.session.specs.History.{Accepted, HoldsEvent, accepted_since, lines_accepted, made_of, read_accepted, unless_opened, unless_refused, with_accepted}
use Rattle.session.specs.Openings.{opening, session_after}
use Rattle.session.specs.Runs as runs
use Rattle.session.specs.Runs.{lines_after, read_after, read_refusal, run_fits}
use Rattle.session.specs.Steps.{Progress, after, record_flaw, refusal, state_flaw, stepped_by}

-- checks that pass together pass each
pub both_pass : {A : Type 0} (f g : Option A) → first f g ≡ None → (f ≡ None) × (g ≡ None)
both_pass None g e = (refl, e)
both_pass (Some c) g e = absurd cc

pub code_passes : (f : Option Code) → option_map call_refusal f ≡ None → f ≡ None
code_passes None e = refl
code_passes (Some c) e = absurd cc

pub unless_passes : (b : Bool) (c : Code) → unless b c ≡ None → b ≡ true
unless_passes true c e = refl
unless_passes false c e = absurd cc

-- an accepted call passes its checks after the calls before it
pub record Stands (h : Hashing) (a : Accepted) (before : List Accepted) : Type 0 where
  pub fields : call_flaw h.size a.call ≡ None
  pub records : record_flaw (made_of h before) a.call ≡ None
  pub state : state_flaw h a.found (made_of h before) a.call ≡ None
  pub holds : HoldsCall a.call

abbrev pub AllStand : Hashing → List Accepted → Type 0
AllStand h [] = Unit {0}
AllStand h (a ∷ before) = Stands h a before × AllStand h before

module _ (h : Hashing) where
  stands_lem : (a : Accepted) (before : List Accepted) → refusal true h a.found (made_of h before) a.call ≡ None → HoldsCall a.call → Stands h a before
  stands_lem a before e holds =
      let p = both_pass (option_map call_refusal (call_flaw h.size a.call)) _ e in
      let q = both_pass (option_map call_refusal (record_flaw (made_of h before) a.call)) _ p.1 in
      record { fields = code_passes _ p.0; records = code_passes _ q.0; state = q.1; holds = holds }

  -- these calls lead to that session, and stand
  pub record Leads (p : Progress) (since : List Accepted) : Type 0 where
    pub made : made_of h since ≡ p
    pub stand : AllStand h since

  module _ (s : Snapshot) where
    abbrev taken : Call → Accepted
    taken c = record { found = s; call = c }

    -- a call, accepted or refused
    called_leads : (p : Progress) (before : List Accepted) (c : Call) → Leads p before → HoldsCall c → (o : Option Refusal) → refusal true h s p c ≡ o → Leads (stepped_by o (after true h s p c) p) (with_accepted o (taken c) before)
    called_leads p before c m holds None e = record {
      made = ap (λ x. after true h s x c) m.made;
      stand = (stands_lem (taken c) before (ap (λ x. refusal true h s x c) m.made ∙ e) holds, m.stand);
    }
    called_leads p before c m holds (Some r) e = m

    -- a line, as it was read
    read_leads : (line : List ℕ) (p : Progress) (before : List Accepted) (r : Result Call Refusal) → ReadsCall h.size line r → Leads p before → Leads (read_after true h s p r) (read_accepted h s p r before)
    read_leads line p before (Ok c) reads m = called_leads p before c m reads.0.holds (refusal true h s p c) refl
    read_leads line p before (Err e) reads m = m

    -- a refused line leaves the session and the accepted calls
    refused_leaves : (p : Progress) (before : List Accepted) (r : Result Call Refusal) (e : Refusal) → read_refusal true h s p r ≡ Some e → read_accepted h s p r before ≡ before
    refused_leaves p before (Ok c) e f = ap (λ o. with_accepted o (taken c) before) f
    refused_leaves p before (Err x) e f = refl

    -- a line and those behind it, which count only where it was accepted
    line_leads : (more : List (List ℕ)) (p : Progress) (before : List Accepted) (r : Result Call Refusal) → Leads (read_after true h s p r) (read_accepted h s p r before) → Leads (lines_after true h s more (read_after true h s p r)) (lines_accepted h s more (read_after true h s p r) (read_accepted h s p r before)) → (o : Option Refusal) → read_refusal true h s p r ≡ o → Leads (runs.unless_refused true h s o (lines_after true h s more (read_after true h s p r)) (read_after true h s p r)) (unless_refused o (lines_accepted h s more (read_after true h s p r) (read_accepted h s p r before)) before)
    line_leads more p before r line rest None e = rest
    line_leads more p before r line rest (Some x) e = subst (Leads (read_after true h s p r)) (refused_leaves p before r x e) line

    lines_lead : (ls : List (List ℕ)) (p : Progress) (before : List Accepted) → Leads p before → Leads (lines_after true h s ls p) (lines_accepted h s ls p before)
    lines_lead [] p before m = m
    lines_lead (line ∷ more) p before m =
        let r = read_call h.size line in
        let made = read_leads line p before r (reads h.size line) m in
        line_leads more p before r made (lines_lead more (read_after true h s p r) (read_accepted h s p r before) made) (read_refusal true h s p r) refl

    ran_leads : (text : List ℕ) (p : Progress) (before : List Accepted) → Leads p before → (b : Bool) → Leads (cond b (lines_after true h s (lines text) p) p) (cond b (lines_accepted h s (lines text) p before) before)
    ran_leads text p before m true = lines_lead (lines text) p before m
    ran_leads text p before m false = m

  opened_leads : (p : Progress) (before : List Accepted) → Leads p before → (r : Result Book Code) → Leads (session_after h p r) (unless_opened r before)
  opened_leads p before m (Ok b) = record { made = refl; stand = tt }
  opened_leads p before m (Err c) = m

  pub since_leads : (es : List Event) → AllByRecursion HoldsEvent es → Leads (progress_after true h es) (accepted_since h es)
  since_leads [] holds = record { made = refl; stand = tt }
  since_leads (called s c ∷ es) holds = called_leads s (progress_after true h es) (accepted_since h es) c (since_leads es holds.1) holds.0 (refusal true h s (progress_after true h es) c) refl
  since_leads (ran s text ∷ es) holds = ran_leads s text (progress_after true h es) (accepted_since h es) (since_leads es holds.1) (run_fits text)
  since_leads (restarted ∷ es) holds = record { made = refl; stand = tt }
  since_leads (opened s shelf q ∷ es) holds = opened_leads (progress_after true h es) (accepted_since h es) (since_leads es holds.1) (opening h s shelf (progress_after true h es) q)
