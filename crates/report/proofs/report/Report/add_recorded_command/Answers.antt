use Rattle.std.proofs.Common.{◌≡◌, ◌++◌, codes, sym, ap, ◌∙◌, rules}
use Rattle.text.specs.Pairs.{pairs}
use Rattle.policy.specs.Lines.{be4}
use Rattle.report.specs.Reports.{labelled}
use Rattle.report.specs.RunReports.{shown_record}
use Rattle.report.specs.Views.{report_bytes}
use Rattle.report.proofs.report.Report.add_recorded_command.Goals as goal

pub returns-in-Some : goal.returns-in-Some
returns-in-Some g c =
    let front = report_bytes c.args.self.now in
    let same : c.to_be_bytes.result ≡ be4 c.in-Some.code = search rules in
    record {
      joined = c.add_bytes.ensures.joined ∙ ap (λ b. front ++ labelled (codes "command") (pairs b)) same ∙ sym (ap (λ o. front ++ shown_record (codes "command") (λ code. pairs (be4 code)) o) c.in-Some.is);
      short = search rules;
    }
