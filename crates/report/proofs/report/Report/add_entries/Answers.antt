use Rattle.std.proofs.Common.{arith}
use Rattle.block.specs.Views.{block_bytes}
use Rattle.report.specs.StateReports.{shown_entry}
use Rattle.report.specs.Views.{report_bytes}
use Rattle.report.proofs.Shown.{joined_step}
use Rattle.report.proofs.report.Report.add_entries.Goals as goal

pub loop-i-preserved : goal.loop-i-preserved
loop-i-preserved g c =
    let shown = shown_entry (block_bytes c.args.block.now) in
    let inv = c.loop-i.invariant in
    record { joined = joined_step shown (report_bytes c.args.self.now) _ _ c.loop-i.i c.add_entry.ensures.joined inv.joined; short = omega (arith, inv.short, c.add_entry.ensures.short) }
