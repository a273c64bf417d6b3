-- What is printed of a state block.
use Rattle.std.specs.Prelude.{ℕ, Bool, cond, List, [], ◌∷◌, ◌++◌, replicate, Some, None, codes, decimal, Option, ◌==◌, slice_index_or}
use Rattle.std.specs.List.{range_with_len, flat_map}
use Rattle.std.specs.Option.{unwrap_or}
use Rattle.std.specs.Str.{bytes_eq}
use Rattle.interfaces.specs.declared.code.Code.{Code}
use Rattle.interfaces.specs.Faults.{call_refusal, fault_at}
use Rattle.interfaces.specs.States.{Snapshot, pcr_count, pcr_length}
use Rattle.text.specs.Cut.{tab}
use Rattle.text.specs.Pairs.{pairs}
use Rattle.tables.specs.Tables.{place_under}
use Rattle.block.specs.Layout.{big_endian, block_flaw, block_snapshot, entries_in, name_in, number_in, part, value_in}
use Rattle.report.specs.Reports.{labelled, shown_fault}

-- A PCR that is not zero: its number and its value.
abbrev pub shown_pcr : List (List ℕ) → ℕ → List ℕ
shown_pcr pcrs i = cond (bytes_eq (slice_index_or pcrs i []) (replicate pcr_length 0)) [] (labelled (codes "pcr") (decimal i ++ tab ∷ pairs (slice_index_or pcrs i [])))

-- A value and its Name, for an entry that is the first of its Name; a later one means nothing.
abbrev pub shown_entry : List ℕ → ℕ → List ℕ
shown_entry bs i = cond (unwrap_or (place_under bytes_eq (entries_in bs) (name_in bs i)) (number_in bs) == i) (labelled (codes "value") (pairs (name_in bs i) ++ tab ∷ pairs (value_in bs i))) []

-- The parts of the time info: time, clock, reset count, restart count and the safe flag.
abbrev pub shown_time : List ℕ → List ℕ
shown_time info =
    labelled (codes "time") (decimal (big_endian (part info 0 8)))
    ++ labelled (codes "clock") (decimal (big_endian (part info 8 8)))
    ++ labelled (codes "resets") (decimal (big_endian (part info 16 4)))
    ++ labelled (codes "restarts") (decimal (big_endian (part info 20 4)))
    ++ labelled (codes "safe") (decimal (big_endian (part info 24 1)))

abbrev pub shown_presence : Bool → List ℕ
shown_presence present = labelled (codes "presence") (cond present (codes "yes") (codes "no"))

-- The state that a block means; its Names are those of its entries.
abbrev pub shown_state : Snapshot → List ℕ → List ℕ
shown_state s bs =
    flat_map (shown_pcr s.pcrs) (range_with_len 0 pcr_count)
    ++ labelled (codes "count") (decimal s.count)
    ++ flat_map (shown_entry bs) (range_with_len 0 (number_in bs))
    ++ shown_time s.time
    ++ labelled (codes "locality") (decimal s.locality)
    ++ shown_presence s.presence

abbrev pub shown_block : Option Code → List ℕ → List ℕ
shown_block None bs = shown_state (block_snapshot bs) bs
shown_block (Some c) bs = shown_fault (fault_at 0 (call_refusal c))

-- The report on a state block: what it means, or its refusal.
abbrev pub state_report : List ℕ → List ℕ
state_report bs = shown_block (block_flaw bs) bs
