use Rattle.std.proofs.Common.{◌≡◌, ◌<◌, [], ◌∷◌, length, unwrap_or, sym, ap, ◌∙◌, arith}
use Rattle.std.proofs.lemmas.Bool.{eqb-true, eqb-false}
use Rattle.text.specs.Cut.{line_feed, lines, after}
use Rattle.text.proofs.Cuts.{lines_none, first-none, first_some, rest_lines, rest_shorter, unwrap_now}
use Rattle.text.proofs.cut.first_line.Goals as goal

pub returns-then-is_empty : goal.returns-then-is_empty
returns-then-is_empty c =
    let none = eqb-true (length c.args.text.now) 0 (sym c.if-is_empty.ensures) in
    record { value = first-none c.args.text.now none; cut = lines_none c.args.text.now none; shorter = none }

pub returns : goal.returns
returns c =
    let s = c.args.text.now in
    let some : 0 < length s = omega (arith, eqb-false (length s) 0 (sym c.if-is_empty.ensures)) in
    let rest : c.unwrap_or.result.now ≡ unwrap_or (after line_feed s) [] = ap (λ x. x.now) c.unwrap_or.ensures ∙ unwrap_now c.split_once.result.1 _ ∙ ap (λ o. unwrap_or o []) c.split_once.ensures.back in
    record {
      value = first_some s _ _ some c.split_once.ensures.front rest;
      cut = rest_lines s some ∙ (λ i. sym c.split_once.ensures.front i ∷ lines (sym rest i));
      shorter = omega (arith, rest_shorter s some, ap length rest);
    }
