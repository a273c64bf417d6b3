use Rattle.std.proofs.Common.{◌++◌, take, codes, sym, ap, ◌∙◌, rules}
use Rattle.interfaces.specs.Checks.{meant}
use Rattle.report.specs.Reports.{labelled}
use Rattle.report.specs.OpeningReports.{shown_content}
use Rattle.report.specs.Views.{report_bytes}
use Rattle.report.proofs.report.Report.add_content.Goals as goal

pub returns-in-Err : goal.returns-in-Err
returns-in-Err g c =
    let front = report_bytes c.args.self.now in
    record {
      joined = c.add_word.ensures.joined ∙ ap (λ ds. front ++ labelled (codes "refused") ds) c.code_digits.ensures ∙ sym (ap (λ r. front ++ shown_content (meant (λ n. take n c.args.content.now) r)) c.in-Err.is);
      short = search rules;
    }
