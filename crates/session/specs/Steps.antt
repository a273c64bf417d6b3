-- A policy session and how a call changes it. `checked` is true in a policy session, which checks calls
-- against the reader state and records the change count, and false in a trial session, which does not.
use Rattle.std.specs.Prelude.{ℕ, Bool, true, false, cond, not, ◌||◌, List, [], ◌∷◌, Some, None, Option, ◌==◌, bit_and}
use Rattle.std.specs.Option.{option_map}
use Rattle.std.specs.Str.{bytes_eq}
use Rattle.interfaces.specs.declared.code.Code.{Code}
use Rattle.interfaces.specs.declared.code.Code.TheVariants.{Value, Range, PcrChanged}
use Rattle.interfaces.specs.declared.fault.Refusal.{Refusal}
use Rattle.interfaces.specs.Checks.{first, unless}
use Rattle.interfaces.specs.Faults.{call_refusal}
use Rattle.interfaces.specs.Hashing.{Hashing, zeros}
use Rattle.interfaces.specs.States.{Snapshot}
use Rattle.policy.specs.Assertions.{Assertion, pcr, nv, time, locality, command, presence, password}
use Rattle.policy.specs.Strings.{extended, joined_digest}
use Rattle.conditions.specs.Meeting.{unmet}
use Rattle.calls.specs.Calls.{Call, assert, or, call_flaw}

-- How far a session has come: its digest, and what its calls recorded.
pub record Progress : Type 0 where
  pub digest : List ℕ
  -- the change count of the state at a `pcr` call
  pub count : Option ℕ
  -- the code of the one command that may use the session
  pub command : Option ℕ
  -- the localities at which it may be used, a byte with a bit for each
  pub localities : Option ℕ
  -- whether presence and password are needed
  pub presence : Bool
  pub password : Bool

-- Fresh or restarted: the zero digest and no records.
abbrev pub fresh : Hashing → Progress
fresh h = record { digest = zeros h; count = None; command = None; localities = None; presence = false; password = false }

-- The bits that a set has in common with the recorded one; the set itself where none is recorded.
abbrev pub common_set : Option ℕ → ℕ → ℕ
common_set None set = set
common_set (Some old) set = bit_and old set

-- A record allows the same value again, and any where nothing is recorded.
abbrev pub allows : {T : Type 0} → (T → T → Bool) → Option T → T → Bool
allows same None value = true
allows same (Some old) value = same old value

abbrev pub same_record : Option ℕ → ℕ → Bool
same_record = allows (λ old n. old == n)

-- The checks against the records, in both kinds of session.
abbrev pub assertion_record_flaw : Progress → Assertion → Option Code
assertion_record_flaw p (pcr selection digest) = None
assertion_record_flaw p (nv name c) = None
assertion_record_flaw p (time c) = None
assertion_record_flaw p (locality set) = unless (not ((common_set p.localities set) == 0)) Range
assertion_record_flaw p (command code) = unless (same_record p.command code) Value
assertion_record_flaw p presence = None
assertion_record_flaw p password = None

abbrev pub record_flaw : Progress → Call → Option Code
record_flaw p (assert a) = assertion_record_flaw p a
record_flaw p (or ds) = None

-- A digest is one of several.
abbrev pub among : List ℕ → List (List ℕ) → Bool
among digest [] = false
among digest (d ∷ ds) = bytes_eq d digest || among digest ds

-- A recorded change count differs from the state's, which is `current`.
abbrev pub count_flaw : Progress → ℕ → Assertion → Option Code
count_flaw p current (pcr selection digest) = unless (same_record p.count current) PcrChanged
count_flaw p current (nv name c) = None
count_flaw p current (time c) = None
count_flaw p current (locality set) = None
count_flaw p current (command code) = None
count_flaw p current presence = None
count_flaw p current password = None

-- The checks against the state and the session's digest, in a policy session only.
abbrev pub state_flaw : Hashing → Snapshot → Progress → Call → Option Refusal
state_flaw h s p (assert a) = first (option_map call_refusal (count_flaw p s.count a)) (unmet h s a)
state_flaw h s p (or ds) = option_map call_refusal (unless (among p.digest ds) Value)

-- The first refusal of a call: of its fields, against the records, against the state.
abbrev pub refusal : Bool → Hashing → Snapshot → Progress → Call → Option Refusal
refusal checked h s p c =
    first (option_map call_refusal (call_flaw h.size c))
    (first (option_map call_refusal (record_flaw p c))
    (cond checked (state_flaw h s p c) None))

abbrev pub with_digest : Progress → List ℕ → Progress
with_digest p d = record { digest = d; count = p.count; command = p.command; localities = p.localities; presence = p.presence; password = p.password }

-- What an accepted assertion records, where the state's change count is `current`.
abbrev pub recorded : Bool → ℕ → Assertion → Progress → Progress
recorded checked current (pcr selection digest) p = record { digest = p.digest; count = cond checked (Some current) p.count; command = p.command; localities = p.localities; presence = p.presence; password = p.password }
recorded checked current (nv name c) p = p
recorded checked current (time c) p = p
recorded checked current (locality set) p = record { digest = p.digest; count = p.count; command = p.command; localities = Some (common_set p.localities set); presence = p.presence; password = p.password }
recorded checked current (command code) p = record { digest = p.digest; count = p.count; command = Some code; localities = p.localities; presence = p.presence; password = p.password }
recorded checked current presence p = record { digest = p.digest; count = p.count; command = p.command; localities = p.localities; presence = true; password = p.password }
recorded checked current password p = record { digest = p.digest; count = p.count; command = p.command; localities = p.localities; presence = p.presence; password = true }

-- The session after an accepted call. An `or` puts zeros in the place of the old digest.
abbrev pub after : Bool → Hashing → Snapshot → Progress → Call → Progress
after checked h s p (assert a) = recorded checked s.count a (with_digest p (extended h p.digest a))
after checked h s p (or ds) = with_digest p (joined_digest h ds)

-- A refused call changes nothing.
abbrev pub stepped_by : Option Refusal → Progress → Progress → Progress
stepped_by None next p = next
stepped_by (Some e) next p = p

abbrev pub stepped : Bool → Hashing → Snapshot → Progress → Call → Progress
stepped checked h s p c = stepped_by (refusal checked h s p c) (after checked h s p c) p
