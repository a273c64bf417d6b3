-- What a judged block means is a sound state.
use Rattle.std.proofs.Common.{◌≡◌, ℕ, ◌<◌, ◌≤◌, true, List, [], map, length, Some, sym, subst, arith}
use Rattle.std.specs.List.{range_with_len, AllByRecursion}
use Rattle.std.specs.Str.{bytes_eq}
use Rattle.std.proofs.lemmas.List.FromFn.{length-map-range_with_len, get_or-map-range_with_len}
use Rattle.std.proofs.ByRecursion.{All-from_get_or}
use Rattle.std.proofs.lemmas.Slice.Eq.{bytes_eq-Decides}
use Rattle.interfaces.specs.Checks.{Bytes}
use Rattle.interfaces.specs.States.{Sound, name_length, pcr_count, pcr_length, time_length, value_limit}
use Rattle.tables.specs.Tables.{value_under}
use Rattle.tables.proofs.Bytes.{Small, small_bytes}
use Rattle.tables.proofs.Laws.{value_holds}
use Rattle.block.specs.Layout.{block_length, block_snapshot, count_at, count_length, entries_in, entry_at, in_range, length_in, name_in, number_in, part, pcr_in, time_at, value_in}
use Rattle.block.specs.Entries.{entries_length, entries_at_lem, value_short}
use Rattle.block.specs.Numbers.{eight_fit}
use Rattle.block.specs.Parts.{part-long, part_small}
use Rattle.block.specs.Ranges.{ranges}

all_pcrs : (P : List ℕ → Type 0) (bs : List ℕ) → ((i : ℕ) → i < pcr_count → P (pcr_in bs i)) → AllByRecursion P (map (pcr_in bs) (range_with_len 0 pcr_count))
all_pcrs P bs each = All-from_get_or P (map (pcr_in bs) (range_with_len 0 pcr_count)) [] (λ i h. let l : i < pcr_count = omega (arith, length-map-range_with_len (pcr_in bs) 0 pcr_count) in subst P (sym (get_or-map-range_with_len (pcr_in bs) 0 pcr_count i i [] l (omega arith))) (each i l))

-- what holds of every used entry holds of what is found under a Name
all_values : (P : List ℕ → List ℕ → Type 0) (bs : List ℕ) → ((i : ℕ) → i < number_in bs → P (name_in bs i) (value_in bs i)) → (name value : List ℕ) → value_under bytes_eq (entries_in bs) name ≡ Some value → P name value
all_values P bs each name value e = value_holds bytes_eq P (entries_in bs) name value (λ i d h. let l : i < number_in bs = omega (arith, entries_length bs) in subst (λ p. P p.0 p.1) (sym (entries_at_lem bs i d l)) (each i l)) (λ x y. (bytes_eq-Decides x y).0) e

pub block_sound : (bs : List ℕ) → length bs ≡ block_length → in_range bs ≡ true → Small bs → Sound (block_snapshot bs)
block_sound bs long sound small =
    let within = ranges bs sound in
    record {
      pcrs_all = length-map-range_with_len (pcr_in bs) 0 pcr_count;
      pcrs_long = all_pcrs (λ p. length p ≡ pcr_length) bs (λ i h. part-long bs _ pcr_length (omega arith));
      pcrs_bytes = all_pcrs Bytes bs (λ i h. small_bytes _ (part_small bs _ pcr_length small));
      count_fits = eight_fit (part bs count_at count_length) (part-long bs count_at count_length (omega arith)) (part_small bs count_at count_length small);
      names_long = all_values (λ name _. length name ≡ name_length) bs (λ i h. part-long bs (entry_at i) name_length (omega (arith, within.number)));
      values_short = all_values (λ _ value. length value ≤ value_limit) bs (λ i h. value_short bs i (within.lengths i h));
      values_bytes = all_values (λ _ value. Bytes value) bs (λ i h. small_bytes _ (part_small bs _ (length_in bs i) small));
      time_long = part-long bs time_at time_length (omega arith);
      time_bytes = small_bytes _ (part_small bs time_at time_length small);
      locality_within = within.locality;
    }
