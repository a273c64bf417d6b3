use Rattle.std.proofs.Common.{length, decimal, ap, ◌∙◌, arith, rules}
use Rattle.std.proofs.lemmas.Fmt.{length-decimal-le}
use Rattle.std.proofs.lemmas.List.{length-append}
use Rattle.arrays.proofs.Putting.{put_fits}
use Rattle.report.specs.Views.{report_bytes}
use Rattle.report.proofs.report.Report.add_decimal.Goals as goal

pub unwrap-requires : goal.unwrap-requires
unwrap-requires g c = let short = length-decimal-le 20 c.args.n (omega arith) (omega (arith, c.ranges.n.fits)) c.ranges.n.fits in search rules

pub returns : goal.returns
returns g c =
    let before = report_bytes c.args.self.now in
    let short = length-decimal-le 20 c.args.n (omega arith) (omega (arith, c.ranges.n.fits)) c.ranges.n.fits in
    let joined = put_fits g.row.N before (decimal c.args.n) _ _ (omega arith) c.append_decimal.ensures in
    record { joined = joined; short = omega (arith, ap length joined ∙ length-append before (decimal c.args.n)) }
