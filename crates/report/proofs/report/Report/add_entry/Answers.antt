use Rattle.std.proofs.Common.{sym, ap, ◌∙◌, rules}
use Rattle.std.specs.Option.{option_map}
use Rattle.block.specs.Views.{block_bytes}
use Rattle.report.proofs.Shown.{entry_lengths}
use Rattle.report.proofs.report.Report.add_entry.Goals as goal

pub add_value-requires : goal.add_value-requires
add_value-requires g c =
    let block = c.args.block.now in
    let some = sym (ap (option_map (λ p. (p.0.now, p.1.now))) c.unwrap.ensures) ∙ c.entry.ensures in
    let lengths = entry_lengths (block_bytes block) c.args.i _ _ block.long block.sound c.requires.number some in
    (search rules, (lengths.name_long, (lengths.value_within, c.requires.room)))
