-- What the reader's own state means.
use Rattle.std.specs.Prelude.{ℕ, List, map}
use Rattle.std.specs.Str.{bytes_eq}
use Rattle.arrays.specs.Items.{items}
use Rattle.interfaces.specs.States.{Snapshot}
use Rattle.interfaces.specs.Views.{pcr_bytes}
use Rattle.state.specs.declared.values.Values.{Values}
use Rattle.state.specs.declared.own.Own.{Own}
use Rattle.state.specs.Entries.{held_among}
use Rattle.tables.specs.Tables.{value_under}

abbrev pub held : Values → List (List ℕ × List ℕ)
held v = held_among (items v.entries)

abbrev pub own_snapshot : Own → Snapshot
own_snapshot o = record {
  pcrs = map pcr_bytes o.pcrs;
  count = o.count;
  stored = value_under bytes_eq (held o.values);
  time = o.time.bytes;
  locality = o.locality;
  presence = o.presence;
}
