-- The used entries of a block, place by place.
use Rattle.std.proofs.Common.{◌≡◌, ℕ, ◌+◌, ◌<◌, ◌≤◌, List, length, get_or, drop, Some, None, sym, ap, ◌∙◌, arith}
use Rattle.std.specs.Str.{bytes_eq}
use Rattle.std.proofs.lemmas.List.FromFn.{length-map-range_with_len, get_or-map-range_with_len}
use Rattle.std.proofs.lemmas.List.{length-take}
use Rattle.interfaces.specs.States.{name_length, value_limit}
use Rattle.tables.specs.Tables.{place_under, value_under}
use Rattle.tables.proofs.Laws.{FirstAt, first-within, place_first, place_none, place_some}
use Rattle.block.specs.Layout.{entries_in, entry_at, entry_in, length_in, number_in, value_in}

pub entries_length : (bs : List ℕ) → length (entries_in bs) ≡ number_in bs
entries_length bs = length-map-range_with_len (entry_in bs) 0 (number_in bs)

pub entries_at_lem : (bs : List ℕ) (i : ℕ) (d : List ℕ × List ℕ) → i < number_in bs → get_or (entries_in bs) i d ≡ entry_in bs i
entries_at_lem bs i d h = get_or-map-range_with_len (entry_in bs) 0 (number_in bs) i i d h (omega arith)

pub value_short : (bs : List ℕ) (i : ℕ) → length_in bs i ≤ value_limit → length (value_in bs i) ≤ value_limit
value_short bs i h = omega (arith, length-take (length_in bs i) (drop (entry_at i + name_length + 1) bs))

first_at : (bs name : List ℕ) (i : ℕ) → Some i ≡ place_under bytes_eq (entries_in bs) name → FirstAt bytes_eq (entries_in bs) name i
first_at bs name i e = place_first bytes_eq (entries_in bs) name i (sym e)

-- what the place of a Name tells of its value
pub place_within : (bs name : List ℕ) (i : ℕ) → Some i ≡ place_under bytes_eq (entries_in bs) name → i < number_in bs
place_within bs name i e = omega (arith, entries_length bs, first-within bytes_eq (entries_in bs) name i (first_at bs name i e))

pub placed_value : (bs name : List ℕ) (i : ℕ) → Some i ≡ place_under bytes_eq (entries_in bs) name → value_under bytes_eq (entries_in bs) name ≡ Some (value_in bs i)
placed_value bs name i e = place_some bytes_eq (entries_in bs) name i (entry_in bs i) (sym e) ∙ ap (λ p. Some p.1) (entries_at_lem bs i (entry_in bs i) (place_within bs name i e))

pub no_value : (bs name : List ℕ) → None ≡ place_under bytes_eq (entries_in bs) name → value_under bytes_eq (entries_in bs) name ≡ None
no_value bs name e = place_none bytes_eq (entries_in bs) name (sym e)
