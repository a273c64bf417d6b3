use Rattle.std.proofs.Common.{◌≡◌, ◌++◌, ap, ◌∙◌, arith}
use Rattle.std.specs.List.{range_with_len, flat_map}
use Rattle.interfaces.specs.States.{pcr_count}
use Rattle.block.specs.Layout.{block_snapshot}
use Rattle.block.specs.Views.{block_bytes}
use Rattle.report.specs.StateReports.{shown_pcr}
use Rattle.report.specs.Views.{report_bytes}
use Rattle.report.proofs.Shown.{joined_step}
use Rattle.report.proofs.report.Report.add_pcrs.Goals as goal

pub loop-index-preserved : goal.loop-index-preserved
loop-index-preserved g c =
    let shown = shown_pcr (block_snapshot (block_bytes c.args.block.now)).pcrs in
    let inv = c.loop-index.invariant in
    record { joined = joined_step shown (report_bytes c.args.self.now) _ _ c.loop-index.index c.add_pcr.ensures.joined inv.joined; short = omega (arith, inv.short, c.add_pcr.ensures.short) }

pub returns : goal.returns
returns g c =
    let shown = shown_pcr (block_snapshot (block_bytes c.args.block.now)).pcrs in
    let all : c.loop-index.index ≡ pcr_count = omega arith in
    let inv = c.loop-index.invariant in
    record { joined = inv.joined ∙ ap (λ n. report_bytes c.args.self.now ++ flat_map shown (range_with_len 0 n)) all; short = omega (arith, inv.short) }
