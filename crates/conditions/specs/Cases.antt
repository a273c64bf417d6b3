-- Worked cases, of the same definitions.
use Rattle.std.specs.Prelude.{◌≡◌, ℕ, true, false, List, [], ◌∷◌, ◌++◌, slice_index_or}
use Rattle.conditions.specs.Comparing.{compares}
use Rattle.conditions.specs.Picking.{picked}

-- Signed ff > fe, 80 < 7f and 8000 ≥ 8000, and unsigned 00ff < 0100, hold; 0c against 04 holds for
-- operation 10 and not for 11.
abbrev pub WorkedComparisons : Type 0
WorkedComparisons =
    (compares 2 (0xff ∷ []) (0xfe ∷ []) ≡ true)
    × (compares 4 (0x80 ∷ []) (0x7f ∷ []) ≡ true)
    × (compares 6 (0x80 ∷ 0x00 ∷ []) (0x80 ∷ 0x00 ∷ []) ≡ true)
    × (compares 5 (0x00 ∷ 0xff ∷ []) (0x01 ∷ 0x00 ∷ []) ≡ true)
    × (compares 10 (0x0c ∷ []) (0x04 ∷ []) ≡ true)
    × (compares 11 (0x0c ∷ []) (0x04 ∷ []) ≡ false)

-- The selection 810000 picks PCRs 0 and 7, and 000080 picks 23.
abbrev pub WorkedSelections : Type 0
WorkedSelections = (pcrs : List (List ℕ)) →
    (picked (0x81 ∷ 0x00 ∷ 0x00 ∷ []) pcrs ≡ slice_index_or pcrs 0 [] ++ slice_index_or pcrs 7 [])
    × (picked (0x00 ∷ 0x00 ∷ 0x80 ∷ []) pcrs ≡ slice_index_or pcrs 23 [])
