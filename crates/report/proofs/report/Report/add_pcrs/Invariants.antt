use Rattle.std.proofs.Common.{◌*◌}
use Rattle.std.specs.List.{range_with_len, flat_map}
use Rattle.block.specs.Layout.{block_snapshot}
use Rattle.block.specs.Views.{block_bytes}
use Rattle.report.specs.Rooms.{pcr_room}
use Rattle.report.specs.StateReports.{shown_pcr}
use Rattle.report.specs.Views.{Adds, report_bytes}
use Rattle.report.proofs.report.Report.add_pcrs.Given as goal

abbrev pub invariant-loop-index : goal.invariant-loop-index
invariant-loop-index g l = Adds (report_bytes l.initial.self) (flat_map (shown_pcr (block_snapshot (block_bytes l.block)).pcrs) (range_with_len 0 l.index)) (pcr_room * l.index) (report_bytes l.self)
