use Rattle.std.proofs.Common.{◌≡◌, true, ◌++◌, sym, ap, ◌∙◌}
use Rattle.block.specs.Layout.{block_flaw, block_snapshot}
use Rattle.block.specs.Views.{block_bytes}
use Rattle.session.specs.Runs.{run_after, run_answer}
use Rattle.session.specs.Steps.{fresh}
use Rattle.session.specs.Views.{progress_of}
use Rattle.report.specs.RunReports.{shown_lines, shown_progress, shown_run_over}
use Rattle.report.proofs.Shown.{taken-is}
use Rattle.report.proofs.run.run_report.Goals as goal

pub returns : goal.returns
returns g c =
    let h = g.H.Hash.meaning c.args.hash in
    let bs = c.args.block.now in
    let text = c.args.text.now in
    let s = block_snapshot bs in
    let taken = taken-is (block_flaw bs) bs (block_bytes c.in-Ok.state) c.in-Ok.ensures in
    let hash : g.H.Hash.meaning c.policy-session.result.hash ≡ h = ap g.H.Hash.meaning c.policy-session.ensures.hash in
    let answered : c.run.result ≡ run_answer true h s text (fresh h) = c.run.ensures.ran.answer ∙ (λ i. run_answer true (hash i) (block_snapshot (taken.1 i)) text (c.policy-session.ensures.fresh i)) in
    let left : progress_of c.run.new.self.progress ≡ run_after true h s text (fresh h) = c.run.ensures.ran.after ∙ (λ i. run_after true (hash i) (block_snapshot (taken.1 i)) text (c.policy-session.ensures.fresh i)) in
    let lines = c.add_lines.ensures.joined ∙ (λ i. c.new-report.ensures i ++ shown_lines (answered i)) in
    c.add_progress.ensures.joined
    ∙ (λ i. lines i ++ shown_progress (progress_of (c.progress.ensures i)))
    ∙ (λ i. shown_lines (run_answer true h s text (fresh h)) ++ shown_progress (left i))
    ∙ sym (ap (λ f. shown_run_over f h bs text) taken.0)
