-- What a call leaves of a session beside how far it has come, and what a call and a run come to on a
-- whole session.
use Rattle.std.specs.Prelude.{◌≡◌, ℕ, Bool, List, Result}
use Rattle.interfaces.specs.declared.fault.Fault.{Fault}
use Rattle.interfaces.specs.declared.fault.Refusal.{Refusal}
use Rattle.interfaces.specs.Hashing.{Hashing}
use Rattle.interfaces.specs.States.{Snapshot}
use Rattle.calls.specs.Calls.{Call}
use Rattle.session.specs.declared.session.Session.{Session}
use Rattle.session.specs.Events.{Called, Ran}
use Rattle.session.specs.Views.{progress_of}

-- A session keeps its hash and its kind.
pub record Kept {H K : Type 0} (before later : Session H K) : Type 0 where
  pub hash : later.hash ≡ before.hash
  pub kind : later.kind ≡ before.kind

-- `checked` tells of a kind whether calls are checked against the state, `meaning` what a hash means.
module _ {H K : Type 0} (checked : K → Bool) (meaning : H → Hashing) (s : Snapshot) (before : Session H K) where
  -- A call on a session: what it answers, how far the session has come then, and what it keeps.
  pub record Makes (c : Call) (r : Result (Unit {0}) Refusal) (later : Session H K) : Type 0 where
    pub called : Called (checked before.kind) (meaning before.hash) s (progress_of before.progress) c r (progress_of later.progress)
    pub kept : Kept before later

  -- The same of a run of a text.
  pub record Runs (text : List ℕ) (r : Result ℕ Fault) (later : Session H K) : Type 0 where
    pub ran : Ran (checked before.kind) (meaning before.hash) s (progress_of before.progress) text r (progress_of later.progress)
    pub kept : Kept before later
