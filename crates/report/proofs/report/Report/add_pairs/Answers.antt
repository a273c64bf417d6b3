use Rattle.std.proofs.Common.{length, ap, ◌∙◌, arith, rules}
use Rattle.std.proofs.lemmas.List.{length-append}
use Rattle.arrays.proofs.Putting.{put_fits}
use Rattle.text.specs.Pairs.{pairs}
use Rattle.text.proofs.Writes.{pairs-length}
use Rattle.report.specs.Views.{report_bytes}
use Rattle.report.proofs.report.Report.add_pairs.Goals as goal

pub unwrap-requires : goal.unwrap-requires
unwrap-requires g c = let long = pairs-length c.args.bytes.now in search rules

pub returns : goal.returns
returns g c =
    let before = report_bytes c.args.self.now in
    let long = pairs-length c.args.bytes.now in
    let joined = put_fits g.row.N before (pairs c.args.bytes.now) _ _ (omega arith) c.append_pairs.ensures in
    record { joined = joined; short = omega (arith, ap length joined ∙ length-append before (pairs c.args.bytes.now)) }
