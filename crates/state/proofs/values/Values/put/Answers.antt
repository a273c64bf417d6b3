use Rattle.std.proofs.Common.{ap, ◌∙◌}
use Rattle.std.specs.Str.{bytes_eq}
use Rattle.arrays.specs.Items.{items}
use Rattle.tables.proofs.Places.{put_left}
use Rattle.tables.specs.Tables.{distinct, full_flaw}
use Rattle.state.specs.Entries.{entry_of, value_count, held_among}
use Rattle.state.specs.Views.{held}
use Rattle.state.proofs.Changed.{put_once}
use Rattle.state.proofs.values.Values.put.Goals as goal

pub invariant_of-self : goal.invariant_of-self
invariant_of-self c =
    let v = c.args.self.now in
    let e = c.args.entry in
    let left = ap held_among c.put.ensures.after ∙ put_left entry_of bytes_eq value_count (items v.entries) e in
    record { once = ap (distinct bytes_eq) left ∙ put_once v e (full_flaw bytes_eq value_count (held v) e.name.bytes) }

pub returns-clause-after : goal.returns-clause-after
returns-clause-after c = ap held_among c.put.ensures.after ∙ put_left entry_of bytes_eq value_count (items c.args.self.now.entries) c.args.entry
