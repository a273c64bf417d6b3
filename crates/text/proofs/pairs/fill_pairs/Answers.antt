use Rattle.std.proofs.Common.{◌<◌, ◌≢◌, length, Some, sym, ap, ◌∙◌, arith, get_or-set_other, get_or-set_same, below_more}
use Rattle.text.proofs.Hex.{digits_counted, filled}
use Rattle.text.proofs.pairs.fill_pairs.Goals as goal

pub bounds-field-i : goal.bounds-field-i
bounds-field-i c = omega (arith, digits_counted c.args.field.now (length c.args.out.now) c.requires)

pub bounds-field-i-in-loop-i : goal.bounds-field-i-in-loop-i
bounds-field-i-in-loop-i c = omega (arith, digits_counted c.args.field.now (length c.args.out.now) c.requires)

pub loop-i-preserved : goal.loop-i-preserved
loop-i-preserved c =
    below_more _ _
    (λ k h. let ne : k ≢ c.loop-i.i = omega arith in rw get_or-set_other (c.loop-i.invariant k h))
    (let lt : c.loop-i.i < length c.loop-i.out = omega arith in rw get_or-set_same c.pair_value.ensures)

pub returns : goal.returns
returns c = filled c.args.field.now c.loop-i.out (c.requires ∙ ap Some (sym c.loop-i.auto.out)) (λ k h. c.loop-i.invariant k (omega arith))
