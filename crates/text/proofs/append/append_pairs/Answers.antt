use Rattle.std.proofs.Common.{◌≡◌, [], ◌++◌, length, refl, sym, ap, ◌∙◌, arith, rules}
use Rattle.std.proofs.lemmas.List.{append_assoc, append-nil, length-append, nil_from_length}
use Rattle.std.specs.Slice.Iter.{chunks_rest}
use Rattle.arrays.specs.Items.{items}
use Rattle.text.specs.Pairs.{pairs}
use Rattle.text.proofs.Spelling.{wrote_some, wrote_front}
use Rattle.text.proofs.Writes.{pairs-length, pairs-append}
use Rattle.text.proofs.append.append_pairs.Goals as goal

pub returns-then-bytes-len : goal.returns-then-bytes-len
returns-then-bytes-len g c = record { over = omega (arith, pairs-length c.args.bytes.now, c.len.ensures.value, c.len.ensures.within); same = refl }

pub unwrap-end-requires : goal.unwrap-end-requires
unwrap-end-requires g c =
    let inv = c.loop-part.invariant in
    let short = rw inv.2 at c.in-Some.ensures.steps.1.1 in
    wrote_some _ _ _ _ (omega (arith, short, inv.3, pairs-length c.in-Some.part.now)) c.put_pairs.ensures

pub loop-part-preserved : goal.loop-part-preserved
loop-part-preserved g c =
    let inv = c.loop-part.invariant in
    let steps = c.in-Some.ensures.steps in
    let part = c.in-Some.part.now in
    let rest = chunks_rest c.next.new.self in
    let before = items c.loop-part.out in
    let written = wrote_front _ _ _ _ _ c.put_pairs.ensures c.unwrap-end.ensures in
    let joined = c.in_ok-extend.ensures.joined ∙ ap (λ l. before ++ l) written in (
      search rules,
      tt,
      steps.0 ∙ inv.2,
      omega (arith, inv.3, c.put_pairs.auto.out),
      ap (λ l. l ++ pairs rest) joined ∙ append_assoc before (pairs part) (pairs rest) ∙ ap (λ l. before ++ l) (sym (pairs-append part rest) ∙ ap pairs (sym steps.1.0)) ∙ inv.4,
    )

pub returns-in_err-extend : goal.returns-in_err-extend
returns-in_err-extend g c =
    let inv = c.loop-part.invariant in
    let parts = c.in-Some.ensures.steps.1.0 in
    let part = c.in-Some.part.now in
    let all = chunks_rest c.loop-part.part-iterator in
    let written = wrote_front _ _ _ _ _ c.put_pairs.ensures c.unwrap-end.ensures in
    let sum = ap length inv.4 in
    let front = length-append (items c.loop-part.out) (pairs all) in
    let back = length-append (items c.args.out.now) (pairs c.args.bytes.now) in
    let cut = ap length parts ∙ length-append part (chunks_rest c.next.new.self) in
    absurd (omega (arith, sum, front, back, cut, ap length written, pairs-length part, pairs-length all, pairs-length c.args.bytes.now, c.in_err-extend.ensures.over, c.len.ensures.value, c.len.ensures.within, c.if-bytes-len.false))

pub returns : goal.returns
returns g c =
    let none : chunks_rest c.loop-part.part-iterator ≡ [] = nil_from_length _ c.in-None.ensures.steps.1.0 in
    record {
      within = omega (arith, pairs-length c.args.bytes.now, c.len.ensures.value, c.len.ensures.within, c.if-bytes-len.false);
      joined = sym (append-nil (items c.loop-part.out)) ∙ (rw none at c.loop-part.invariant.4);
    }
