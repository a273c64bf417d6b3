-- How a reader state may be changed: each change of a state as a whole, with its checks in their
-- order.
use Rattle.std.specs.Prelude.{◌≡◌, ℕ, ◌+◌, ◌-◌, ◌^◌, ◌<◌, Bool, false, cond, ◌&&◌, ◌||◌, List, [], ◌++◌, length, replicate, is_some, Some, None, Decides, Option, Result, ◌==◌, nat_le, nat_lt, slice_index_or, slice_set}
use Rattle.std.specs.List.{ContainsAt}
use Rattle.std.specs.Str.{bytes_eq}
use Rattle.interfaces.specs.declared.code.Code.{Code}
use Rattle.interfaces.specs.declared.code.Code.TheVariants.{Value, Size, Memory}
use Rattle.interfaces.specs.Checks.{first, unless, refused_with, settled}
use Rattle.interfaces.specs.States.{Snapshot, pcr_count, pcr_length, name_length, value_limit, time_length, last_locality}
use Rattle.sha256.specs.Sha256.{sha256}
use Rattle.state.specs.Entries.{value_count}

-- The state of a new reader: zeros, and no values.
abbrev pub blank : Snapshot
blank = record {
  pcrs = replicate pcr_count (replicate pcr_length 0);
  count = 0;
  stored = λ name. None;
  time = replicate time_length 0;
  locality = 0;
  presence = false;
}

-- The largest change count.
abbrev pub last_count : ℕ
last_count = 2 ^ 64 - 1

-- Extending a PCR: it becomes SHA-256 of its old value with the new one behind it, and the change
-- count rises by 1.
abbrev pub extend_flaw : Snapshot → ℕ → List ℕ → Option Code
extend_flaw s index value = first (unless (length value == pcr_length) Size) (first (unless (nat_lt index pcr_count) Value) (unless (nat_lt s.count last_count) Memory))

abbrev pub with_pcr_extended : Snapshot → ℕ → List ℕ → Snapshot
with_pcr_extended s index value = record {
  pcrs = slice_set s.pcrs index (sha256 (slice_index_or s.pcrs index [] ++ value));
  count = s.count + 1;
  stored = s.stored;
  time = s.time;
  locality = s.locality;
  presence = s.presence;
}

-- A value put under a Name, which need not be held yet.
abbrev pub with_value : Snapshot → List ℕ → List ℕ → Snapshot
with_value s name value = record {
  pcrs = s.pcrs;
  count = s.count;
  stored = λ other. cond (bytes_eq name other) (Some value) (s.stored other);
  time = s.time;
  locality = s.locality;
  presence = s.presence;
}

-- The state holds `number` values: under these Names, each of which comes once, and no others.
pub record Holding (s : Snapshot) (number : ℕ) : Type 0 where
  pub names : List (List ℕ)
  pub counted : length names ≡ number
  pub once : (i j : ℕ) → i < length names → j < length names → slice_index_or names i [] ≡ slice_index_or names j [] → i ≡ j
  pub exactly : (name : List ℕ) → Decides (is_some (s.stored name)) (ContainsAt names name)

-- A Name and a value each have their lengths.
abbrev pub lengths_flaw : List ℕ → List ℕ → Option Code
lengths_flaw name value = unless (length name == name_length && nat_le (length value) value_limit) Size

-- Putting a value: one more than the most is refused, unless it replaces one.
abbrev pub put_flaw : Snapshot → ℕ → List ℕ → List ℕ → Option Code
put_flaw s number name value = first (lengths_flaw name value) (unless (is_some (s.stored name) || nat_lt number value_count) Memory)

-- What putting a value answers, and the state after it.
pub record Put (s : Snapshot) (name value : List ℕ) (r : Result (Unit {0}) Code) (s' : Snapshot) : Type 0 where
  pub number : ℕ
  pub holding : Holding s number
  pub answer : r ≡ refused_with (put_flaw s number name value) tt
  pub after : s' ≡ settled (put_flaw s number name value) (with_value s name value) s

-- Setting the time info, the locality and the presence.
abbrev pub set_time_flaw : List ℕ → Option Code
set_time_flaw info = unless (length info == time_length) Size

abbrev pub with_time : Snapshot → List ℕ → Snapshot
with_time s info = record {
  pcrs = s.pcrs;
  count = s.count;
  stored = s.stored;
  time = info;
  locality = s.locality;
  presence = s.presence;
}

abbrev pub set_locality_flaw : ℕ → Option Code
set_locality_flaw locality = unless (nat_le locality last_locality) Value

abbrev pub with_locality : Snapshot → ℕ → Snapshot
with_locality s locality = record {
  pcrs = s.pcrs;
  count = s.count;
  stored = s.stored;
  time = s.time;
  locality = locality;
  presence = s.presence;
}

abbrev pub with_presence : Snapshot → Bool → Snapshot
with_presence s presence = record {
  pcrs = s.pcrs;
  count = s.count;
  stored = s.stored;
  time = s.time;
  locality = s.locality;
  presence = presence;
}
