use Rattle.std.proofs.Common.{length, sym, ap, ◌∙◌, arith}
use Rattle.std.specs.Option.{option_map}
use Rattle.text.proofs.Hex.{odd_none, bad_none, even_some, counted}
use Rattle.text.proofs.pairs.pair_count.Goals as goal

pub returns-then-field-ne0 : goal.returns-then-field-ne0
returns-then-field-ne0 c =
    let odd = odd_none c.args.field.now (omega arith) in
    record { value = sym (ap (option_map length) odd); bytes = odd }

pub returns-in_err-hex_value-clause-value : goal.returns-in_err-hex_value-clause-value
returns-in_err-hex_value-clause-value c =
    let bad = bad_none c.args.field.now c.loop-c.c-index c.loop-c-test.true (sym c.hex_value.ensures ∙ c.in_err-hex_value.was) in
    c.from_residual.ensures ∙ sym (ap (option_map length) bad)

pub returns-in_err-hex_value-clause-bytes : goal.returns-in_err-hex_value-clause-bytes
returns-in_err-hex_value-clause-bytes c =
    let bad = bad_none c.args.field.now c.loop-c.c-index c.loop-c-test.true (sym c.hex_value.ensures ∙ c.in_err-hex_value.was) in
    rw c.from_residual.ensures bad

pub returns : goal.returns
returns c =
    let all = even_some c.args.field.now (omega arith) (λ i h. c.loop-c.invariant i (omega arith)) in
    record { value = sym all; bytes = counted _ _ all }
