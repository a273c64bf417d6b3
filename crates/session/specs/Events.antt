-- What happens to a session, and where it leads.
use Rattle.std.specs.Prelude.{◌≡◌, ℕ, Bool, List, [], ◌∷◌, Result}
use Rattle.interfaces.specs.Hashing.{Hashing}
use Rattle.interfaces.specs.States.{Snapshot}
use Rattle.calls.specs.Calls.{Call}
use Rattle.interfaces.specs.declared.fault.Fault.{Fault}
use Rattle.interfaces.specs.declared.fault.Refusal.{Refusal}
use Rattle.policy.specs.Reading.{refused_by}
use Rattle.session.specs.Books.{Shelf}
use Rattle.session.specs.Openings.{Request, opening, session_after}
use Rattle.session.specs.Runs.{run_after, run_answer}
use Rattle.session.specs.Steps.{Progress, fresh, refusal, stepped}

-- A call, accepted or refused, and a run of a text, each with the state that it finds; a restart; an
-- opening, accepted or refused, with the state and the shelf that it finds.
pub data Event : Type 0 where
  called : Snapshot → Call → Event
  ran : Snapshot → List ℕ → Event
  restarted : Event
  opened : Snapshot → Shelf → Request → Event

-- The session that was fresh at first, after these events, the newest first.
abbrev pub progress_after : Bool → Hashing → List Event → Progress
progress_after checked h [] = fresh h
progress_after checked h (called s c ∷ es) = stepped checked h s (progress_after checked h es) c
progress_after checked h (ran s text ∷ es) = run_after checked h s text (progress_after checked h es)
progress_after checked h (restarted ∷ es) = fresh h
progress_after checked h (opened s shelf q ∷ es) = session_after h (progress_after checked h es) (opening h s shelf (progress_after checked h es) q)

-- Whatever events led to the session before, they and this one lead to the session after.
abbrev pub Follows : Bool → Hashing → Progress → Event → Progress → Type 0
Follows checked h before event now' = (es : List Event) → progress_after checked h es ≡ before → progress_after checked h (event ∷ es) ≡ now'

-- What a call answers, the session after it, and that its history goes on.
pub record Called (checked : Bool) (h : Hashing) (s : Snapshot) (before : Progress) (c : Call) (r : Result (Unit {0}) Refusal) (later : Progress) : Type 0 where
  pub answer : r ≡ refused_by (refusal checked h s before c) tt
  pub after : later ≡ stepped checked h s before c
  pub follows : Follows checked h before (called s c) later

-- The same of a run of a text.
pub record Ran (checked : Bool) (h : Hashing) (s : Snapshot) (before : Progress) (text : List ℕ) (r : Result ℕ Fault) (later : Progress) : Type 0 where
  pub answer : r ≡ run_answer checked h s text before
  pub after : later ≡ run_after checked h s text before
  pub follows : Follows checked h before (ran s text) later
