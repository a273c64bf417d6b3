-- The layout of a state block, and what it means. Numbers of several bytes are big-endian.
use Rattle.std.specs.Prelude.{ℕ, ◌+◌, ◌*◌, Bool, ◌&&◌, List, map, length, take, drop, fold, Option, ◌==◌, nat_le, slice_index}
use Rattle.std.specs.List.{list_all, range_with_len}
use Rattle.std.specs.Str.{bytes_eq}
use Rattle.interfaces.specs.declared.code.Code.{Code}
use Rattle.interfaces.specs.declared.code.Code.TheVariants.{Size, Value}
use Rattle.interfaces.specs.Checks.{first, unless}
use Rattle.interfaces.specs.States.{Snapshot, pcr_count, pcr_length, name_length, value_limit, time_length, last_locality}
use Rattle.tables.specs.Tables.{value_under}

-- Where each part begins. The PCRs stand in front.
abbrev pub count_at : ℕ
count_at = 768

abbrev pub time_at : ℕ
time_at = 776

abbrev pub locality_at : ℕ
locality_at = 801

abbrev pub presence_at : ℕ
presence_at = 802

abbrev pub number_at : ℕ
number_at = 803

abbrev pub entries_at : ℕ
entries_at = 804

-- The length of the change count, of an entry (Name, length, 64 bytes), and of the whole block.
abbrev pub count_length : ℕ
count_length = 8

abbrev pub entry_length : ℕ
entry_length = 99

-- The number of entries.
abbrev pub entry_count : ℕ
entry_count = 8

abbrev pub block_length : ℕ
block_length = 1596

-- So many bytes from a place on.
abbrev pub part : List ℕ → ℕ → ℕ → List ℕ
part bs at n = take n (drop at bs)

abbrev pub big_endian : List ℕ → ℕ
big_endian bs = fold (λ n b. n * 256 + b) 0 bs

abbrev pub pcr_in : List ℕ → ℕ → List ℕ
pcr_in bs index = part bs (pcr_length * index) pcr_length

abbrev pub locality_in : List ℕ → ℕ
locality_in bs = slice_index bs locality_at

-- 1 for yes, 0 for no.
abbrev pub presence_in : List ℕ → ℕ
presence_in bs = slice_index bs presence_at

-- How many of the entries are used; the others are free.
abbrev pub number_in : List ℕ → ℕ
number_in bs = slice_index bs number_at

abbrev pub entry_at : ℕ → ℕ
entry_at i = entries_at + entry_length * i

abbrev pub name_in : List ℕ → ℕ → List ℕ
name_in bs i = part bs (entry_at i) name_length

abbrev pub length_in : List ℕ → ℕ → ℕ
length_in bs i = slice_index bs (entry_at i + name_length)

-- What lies behind the value's length is free.
abbrev pub value_in : List ℕ → ℕ → List ℕ
value_in bs i = part bs (entry_at i + name_length + 1) (length_in bs i)

abbrev pub entry_in : List ℕ → ℕ → List ℕ × List ℕ
entry_in bs i = (name_in bs i, value_in bs i)

-- The used entries, in their order.
abbrev pub entries_in : List ℕ → List (List ℕ × List ℕ)
entries_in bs = map (entry_in bs) (range_with_len 0 (number_in bs))

-- The values of the first n entries have at most 64 bytes.
abbrev pub lengths_fit : List ℕ → ℕ → Bool
lengths_fit bs n = list_all (λ i. nat_le (length_in bs i) value_limit) (range_with_len 0 n)

-- Every byte that has a range is within it.
abbrev pub in_range : List ℕ → Bool
in_range bs = nat_le (locality_in bs) last_locality && (nat_le (presence_in bs) 1 && (nat_le (number_in bs) entry_count && lengths_fit bs (number_in bs)))

-- The checks of a block that is taken as a state, in their order.
abbrev pub block_flaw : List ℕ → Option Code
block_flaw bs = first (unless (length bs == block_length) Size) (unless (in_range bs) Value)

-- What a block means. The first match of a Name counts.
abbrev pub block_snapshot : List ℕ → Snapshot
block_snapshot bs = record {
  pcrs = map (pcr_in bs) (range_with_len 0 pcr_count);
  count = big_endian (part bs count_at count_length);
  stored = value_under bytes_eq (entries_in bs);
  time = part bs time_at time_length;
  locality = locality_in bs;
  presence = (presence_in bs == 1);
}
