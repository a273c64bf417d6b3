use Rattle.std.proofs.Common.{length, inl, ap, arith}
use Rattle.text.specs.Cut.{lines}
use Rattle.text.proofs.Cuts.{lines-length}
use Rattle.text.proofs.cut.count_lines.Goals as goal

pub count-requires-clause-fits : goal.count-requires-clause-fits
count-requires-clause-fits c = inl (omega (arith, lines-length c.args.text.now, ap (λ s. length (lines s)) c.new.ensures, c.well_formed.0))
