-- The values that the reader holds, as a table of byte strings under byte strings.
use Rattle.std.specs.Prelude.{ℕ, List, map}
use Rattle.arrays.specs.Items.{items}
use Rattle.state.specs.declared.entry.Entry.{Entry}
use Rattle.state.specs.declared.entry.StoredValue.{StoredValue}

-- The most values that the reader holds.
abbrev pub value_count : ℕ
value_count = 8

-- A stored value's bytes.
abbrev pub value_bytes : StoredValue → List ℕ
value_bytes v = items v.bytes

abbrev pub entry_of : Entry → List ℕ × List ℕ
entry_of e = (e.name.bytes, value_bytes e.value)

abbrev pub held_among : List Entry → List (List ℕ × List ℕ)
held_among es = map entry_of es
