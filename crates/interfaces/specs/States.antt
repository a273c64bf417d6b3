-- What a reader state means, and what reading it answers.
use Rattle.std.specs.Prelude.{◌≡◌, ℕ, ◌^◌, ◌<◌, ◌≤◌, Bool, ◌&&◌, List, [], length, Some, None, Ok, Err, Option, Result, ◌==◌, nat_lt, slice_index_or}
use Rattle.std.specs.List.{AllByRecursion}
use Rattle.interfaces.specs.declared.code.Code.{Code}
use Rattle.interfaces.specs.declared.code.Code.TheVariants.{Value, Handle, Size}
use Rattle.interfaces.specs.Checks.{Bytes, first, length_flaw, unless, refused_with}

-- The number of PCRs (platform configuration registers), and the length of each in bytes. It stays
-- as it is where a hash has longer digests.
abbrev pub pcr_count : ℕ
pcr_count = 24

abbrev pub pcr_length : ℕ
pcr_length = 32

-- A Name's length: a 2-byte algorithm identifier and a 32-byte digest.
abbrev pub name_length : ℕ
name_length = 34

-- The longest stored value.
abbrev pub value_limit : ℕ
value_limit = 64

-- The length of the time info: time 8, clock 8, reset count 4, restart count 4, safe flag 1.
abbrev pub time_length : ℕ
time_length = 25

-- The last of the localities, which are numbered from 0.
abbrev pub last_locality : ℕ
last_locality = 4

-- A reader state's meaning: what it is at one moment.
pub record Snapshot : Type 0 where
  -- the values of the PCRs, from 0 on
  pub pcrs : List (List ℕ)
  -- how often a PCR was changed
  pub count : ℕ
  -- the value stored under a Name, if the state holds the Name
  pub stored : List ℕ → Option (List ℕ)
  pub time : List ℕ
  pub locality : ℕ
  -- a person shows presence
  pub presence : Bool

-- What every reader state owes: its parts have their number, their lengths and their ranges.
pub record Sound (s : Snapshot) : Type 0 where
  pub pcrs_all : length s.pcrs ≡ pcr_count
  pub pcrs_long : AllByRecursion (λ p. length p ≡ pcr_length) s.pcrs
  pub pcrs_bytes : AllByRecursion Bytes s.pcrs
  pub count_fits : s.count < 2 ^ 64
  pub names_long : (name value : List ℕ) → s.stored name ≡ Some value → length name ≡ name_length
  pub values_short : (name value : List ℕ) → s.stored name ≡ Some value → length value ≤ value_limit
  pub values_bytes : (name value : List ℕ) → s.stored name ≡ Some value → Bytes value
  pub time_long : length s.time ≡ time_length
  pub time_bytes : Bytes s.time
  pub locality_within : s.locality ≤ last_locality

-- The checks of reading, in their order: first the lengths, that of the buffer (`room`) among them.
abbrev pub pcr_flaw : ℕ → ℕ → Option Code
pcr_flaw index room = first (length_flaw pcr_length room) (unless (nat_lt index pcr_count) Value)

abbrev pub stored_flaw : List ℕ → ℕ → Option Code
stored_flaw name room = unless (length name == name_length && room == value_limit) Size

abbrev pub time_flaw : ℕ → Option Code
time_flaw room = length_flaw time_length room

-- What reading a PCR, the value stored under a Name, and the time info come to.
abbrev pub read_pcr : Snapshot → ℕ → ℕ → Result (List ℕ) Code
read_pcr s index room = refused_with (pcr_flaw index room) (slice_index_or s.pcrs index [])

abbrev pub held_value : Option (List ℕ) → Result (List ℕ) Code
held_value None = Err Handle
held_value (Some value) = Ok value

abbrev pub unless_flawed : Option Code → Result (List ℕ) Code → Result (List ℕ) Code
unless_flawed None r = r
unless_flawed (Some c) r = Err c

abbrev pub read_stored : Snapshot → List ℕ → ℕ → Result (List ℕ) Code
read_stored s name room = unless_flawed (stored_flaw name room) (held_value (s.stored name))

abbrev pub read_time : Snapshot → ℕ → Result (List ℕ) Code
read_time s room = refused_with (time_flaw room) s.time
