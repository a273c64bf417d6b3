use Rattle.std.proofs.Common.{◌++◌, codes, decimal, ap, ◌∙◌, arith}
use Rattle.std.specs.List.{range_with_len, flat_map}
use Rattle.interfaces.specs.States.{pcr_count}
use Rattle.block.specs.Layout.{block_snapshot, number_in}
use Rattle.block.specs.Views.{block_bytes}
use Rattle.report.specs.Reports.{labelled}
use Rattle.report.specs.StateReports.{shown_entry, shown_pcr, shown_presence, shown_time}
use Rattle.report.specs.Views.{report_bytes}
use Rattle.report.proofs.Joined.{six_pieces}
use Rattle.report.proofs.report.Report.add_state.Goals as goal

pub returns : goal.returns
returns g c =
    let bs = block_bytes c.args.block.now in
    let s = block_snapshot bs in
    let front = report_bytes c.args.self.now in
    let pcrs = flat_map (shown_pcr s.pcrs) (range_with_len 0 pcr_count) in
    let count = labelled (codes "count") (decimal s.count) in
    let entries = flat_map (shown_entry bs) (range_with_len 0 (number_in bs)) in
    let time = shown_time s.time in
    let locality = labelled (codes "locality") (decimal s.locality) in
    let presence = shown_presence s.presence in
    let one = c.add_pcrs.ensures.joined in
    let two = c.add_count.ensures.joined ∙ (λ i. one i ++ labelled (codes "count") (decimal (c.change_count.ensures i))) in
    let three = c.add_entries.ensures.joined ∙ ap (λ l. l ++ entries) two in
    let four = c.add_time.ensures.joined ∙ ap (λ l. l ++ time) three in
    let five = c.add_count-2.ensures.joined ∙ (λ i. four i ++ labelled (codes "locality") (decimal (c.locality.ensures i))) in
    let six = c.add_presence.ensures.joined ∙ (λ i. five i ++ shown_presence (c.presence.ensures i)) in
    record {
      joined = six ∙ six_pieces front pcrs count entries time locality presence;
      short = omega (arith, c.add_pcrs.ensures.short, c.add_count.ensures.short, c.add_entries.ensures.short, c.add_time.ensures.short, c.add_count-2.ensures.short, c.add_presence.ensures.short);
    }
