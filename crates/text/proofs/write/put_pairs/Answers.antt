use Rattle.std.proofs.Common.{◌≡◌, ◌/◌, ◌%◌, get_or, refl, ap, ◌∙◌, arith}
use Rattle.text.specs.Pairs.{hex_digit}
use Rattle.text.proofs.Spelling.{spelled_more, spelled_all}
use Rattle.text.proofs.Writes.{pairs-length}
use Rattle.text.proofs.write.put_pairs.Goals as goal
use Rattle.text.proofs.write.put_pairs.Goals.{then-at-out-via-then-at-out, then-at-out-via-else-at-out+then-bytes-out}

pub returns-then-at-out : goal.returns-then-at-out
returns-then-at-out c =
    let long = pairs-length c.args.bytes.now in
    elim c.then-at-out.branch [
      | then-at-out-via-then-at-out w ↦ record { over = omega (arith, w.if-at-out.true); same = refl }
      | then-at-out-via-else-at-out+then-bytes-out w ↦ record { over = omega (arith, w.if-at-out.false, w.if-bytes-out.true); same = refl }
    ]

pub loop-i-preserved : goal.loop-i-preserved
loop-i-preserved c =
    let b = get_or c.args.bytes.now c.loop-i.i 0 in
    let high : b / 16 % 16 ≡ b / 16 = omega (arith, (c.type_inv.bytes c.loop-i.i).fits) in
    rw (c.hex_digit.ensures ∙ ap hex_digit high, c.hex_digit-in-loop-i.ensures)
    (spelled_more c.args.out.now c.args.at c.args.bytes.now c.loop-i.i _ c.loop-i.out c.loop-i-test.true refl (omega arith) c.loop-i.invariant)

pub returns : goal.returns
returns c = spelled_all c.args.out.now c.args.at c.args.bytes.now c.loop-i.i _ c.loop-i.out c.loop-i-test.false (omega arith) refl (omega arith) c.loop-i.invariant
