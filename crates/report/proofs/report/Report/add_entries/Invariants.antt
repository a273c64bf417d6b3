use Rattle.std.proofs.Common.{◌*◌}
use Rattle.std.specs.List.{range_with_len, flat_map}
use Rattle.block.specs.Views.{block_bytes}
use Rattle.report.specs.Rooms.{entry_room}
use Rattle.report.specs.StateReports.{shown_entry}
use Rattle.report.specs.Views.{Adds, report_bytes}
use Rattle.report.proofs.report.Report.add_entries.Given as goal

abbrev pub invariant-loop-i : goal.invariant-loop-i
invariant-loop-i g l = Adds (report_bytes l.initial.self) (flat_map (shown_entry (block_bytes l.block)) (range_with_len 0 l.i)) (entry_room * l.i) (report_bytes l.self)
