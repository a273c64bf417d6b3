use Rattle.std.proofs.Common.{◌+◌, Some, sym, ap, ◌∙◌}
use Rattle.std.proofs.lemmas.List.{take_rest}
use Rattle.text.proofs.Cuts.{cut_found, cut_nowhere}
use Rattle.text.proofs.cut.split_once.Goals as goal

pub returns-in-Some : goal.returns-in-Some
returns-in-Some c =
    let at = cut_found c.args.b c.args.s.now c.in-Some.i (sym c.find.ensures ∙ c.in-Some.is) in
    record { front = sym at.0; back = ap Some (take_rest c.args.s.now (c.in-Some.i + 1)) ∙ sym at.1 }

pub returns-in-None : goal.returns-in-None
returns-in-None c =
    let at = cut_nowhere c.args.b c.args.s.now (sym c.find.ensures ∙ c.in-None.is) in
    record { front = sym at.0; back = sym at.1 }
