-- The reader's own state keeps the bounds of a reader state.
use Rattle.std.specs.Prelude.{◌≡◌, ℕ, zero, suc, ◌<◌, ◌≤◌, List, [], ◌∷◌, map, length, Some, slice_index_or}
use Rattle.std.proofs.Common.{arith, ◌∙◌}
use Rattle.std.specs.List.{AllByRecursion}
use Rattle.std.specs.Str.{bytes_eq}
use Rattle.std.proofs.lemmas.Slice.Eq.{bytes_eq-Decides}
use Rattle.std.proofs.lemmas.List.{length-map, length-take}
use Rattle.arrays.specs.Items.{items}
use Rattle.interfaces.specs.declared.byte_array.ByteArray.{ByteArray}
use Rattle.interfaces.specs.Checks.{Bytes}
use Rattle.interfaces.specs.Views.{pcr_bytes}
use Rattle.interfaces.specs.States.{Sound, pcr_length, name_length, value_limit}
use Rattle.tables.specs.Tables.{value_under}
use Rattle.tables.proofs.Bytes.{small_bytes}
use Rattle.tables.proofs.Laws.{value_holds}
use Rattle.state.specs.declared.entry.Entry.{Entry}
use Rattle.state.specs.declared.own.Own.{Own}
use Rattle.state.specs.declared.values.Values.{Values}
use Rattle.state.specs.Entries.{entry_of}
use Rattle.state.specs.Views.{held, own_snapshot}

pcrs_long : (ps : List (ByteArray pcr_length)) → AllByRecursion (λ p. length p ≡ pcr_length) (map pcr_bytes ps)
pcrs_long [] = tt
pcrs_long (p ∷ ps) = (p.long, pcrs_long ps)

pcrs_bytes : (ps : List (ByteArray pcr_length)) → AllByRecursion Bytes (map pcr_bytes ps)
pcrs_bytes [] = tt
pcrs_bytes (p ∷ ps) = (small_bytes p.bytes p.small, pcrs_bytes ps)

-- what an entry's Name and value are
record Kept (name value : List ℕ) : Type 0 where
  named : length name ≡ name_length
  short : length value ≤ value_limit
  bytes : Bytes value

kept : (e : Entry) → Kept (entry_of e).0 (entry_of e).1
kept e =
    let v = e.value in
    record {
      named = e.named;
      short = omega (arith, length-take v.bytes.len v.bytes.all, v.bytes.within);
      bytes = small_bytes (items v.bytes) v.small;
    }

every : (es : List Entry) (i : ℕ) (d : List ℕ × List ℕ) → i < length (map entry_of es) → Kept (slice_index_or (map entry_of es) i d).0 (slice_index_or (map entry_of es) i d).1
every [] i d h = absurd (omega arith)
every (e ∷ es) zero d h = kept e
every (e ∷ es) (suc i) d h = every es i d (omega arith)

stored-kept : (v : Values) (name value : List ℕ) → value_under bytes_eq (held v) name ≡ Some value → Kept name value
stored-kept v name value e = value_holds bytes_eq Kept (held v) name value (every (items v.entries)) (λ x y. (bytes_eq-Decides x y).0) e

stored-named : (v : Values) (name value : List ℕ) → value_under bytes_eq (held v) name ≡ Some value → length name ≡ name_length
stored-named v name value e = (stored-kept v name value e).named

pub stored_short : (v : Values) (name value : List ℕ) → value_under bytes_eq (held v) name ≡ Some value → length value ≤ value_limit
stored_short v name value e = (stored-kept v name value e).short

stored_bytes : (v : Values) (name value : List ℕ) → value_under bytes_eq (held v) name ≡ Some value → Bytes value
stored_bytes v name value e = (stored-kept v name value e).bytes

-- the bounds of a reader state, of any value of the own state
pub own_sound : (x : Own) → Sound (own_snapshot x)
own_sound x = record {
  pcrs_all = length-map x.pcrs pcr_bytes ∙ x.all;
  pcrs_long = pcrs_long x.pcrs;
  pcrs_bytes = pcrs_bytes x.pcrs;
  count_fits = x.fits;
  names_long = stored-named x.values;
  values_short = stored_short x.values;
  values_bytes = stored_bytes x.values;
  time_long = x.time.long;
  time_bytes = small_bytes x.time.bytes x.time.small;
  locality_within = x.within;
}
