use Rattle.std.proofs.Common.{◌++◌, ap, ◌∙◌}
use Rattle.interfaces.specs.Faults.{fault_at}
use Rattle.block.specs.Layout.{block_flaw, block_snapshot}
use Rattle.block.specs.Views.{block_bytes}
use Rattle.report.specs.Reports.{shown_fault}
use Rattle.report.specs.StateReports.{shown_state}
use Rattle.report.proofs.Shown.{refused_shown, taken-shown}
use Rattle.report.proofs.state.state_report.Goals as goal

pub returns-in-Ok : goal.returns-in-Ok
returns-in-Ok c =
    let bs = block_bytes c.in-Ok.block in
    c.add_state.ensures.joined ∙ ap (λ l. l ++ shown_state (block_snapshot bs) bs) c.new-report.ensures ∙ taken-shown (block_flaw c.args.bytes.now) c.args.bytes.now bs c.in-Ok.ensures

pub returns-in-Err : goal.returns-in-Err
returns-in-Err c =
    let fault = c.at.ensures ∙ ap (fault_at 0) c.call.ensures in
    c.add_fault.ensures.joined ∙ (λ i. c.new-report.ensures i ++ shown_fault (fault i)) ∙ refused_shown (block_flaw c.args.bytes.now) c.args.bytes.now c.in-Err.code c.in-Err.ensures
