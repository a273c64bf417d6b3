-- Planned PCRs, as a table of values under PCR numbers, and what a state becomes under them.
use Rattle.std.specs.Prelude.{ℕ, suc, List, [], ◌∷◌, length, Option, ◌==◌, nat_eq, nat_lt, slice_set}
use Rattle.std.specs.Option.{unwrap_or}
use Rattle.interfaces.specs.declared.code.Code.{Code}
use Rattle.interfaces.specs.declared.code.Code.TheVariants.{Size, Value}
use Rattle.interfaces.specs.Checks.{first, unless}
use Rattle.interfaces.specs.States.{Snapshot, pcr_count, pcr_length}
use Rattle.tables.specs.Tables.{value_under, full_flaw}
use Rattle.forecast.specs.Limits.{plan_count}

abbrev pub Plans : Type 0
Plans = List (ℕ × List ℕ)

-- The PCRs from number n on: a planned one has its planned value, any other the value below.
abbrev pub overlaid : Plans → ℕ → List (List ℕ) → List (List ℕ)
overlaid plans n [] = []
overlaid plans n (pcr ∷ pcrs) = unwrap_or (value_under nat_eq plans n) pcr ∷ overlaid plans (suc n) pcrs

-- The state below with other PCRs; all else is as below.
abbrev pub with_pcrs : Snapshot → List (List ℕ) → Snapshot
with_pcrs s pcrs = record {
  pcrs = pcrs;
  count = s.count;
  stored = s.stored;
  time = s.time;
  locality = s.locality;
  presence = s.presence;
}

abbrev pub forecast_snapshot : Plans → Snapshot → Snapshot
forecast_snapshot plans s = with_pcrs s (overlaid plans 0 s.pcrs)

-- The checks of planning a PCR, in their order. One that is planned again is replaced.
abbrev pub plan_flaw : Plans → ℕ → List ℕ → Option Code
plan_flaw plans index value = first (unless (length value == pcr_length) Size) (first (unless (nat_lt index pcr_count) Value) (full_flaw nat_eq plan_count plans index))

-- The state with one PCR planned.
abbrev pub with_pcr : Snapshot → ℕ → List ℕ → Snapshot
with_pcr s index value = with_pcrs s (slice_set s.pcrs index value)
