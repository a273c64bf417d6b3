use Rattle.std.proofs.Common.{◌≡◌, ℕ, ◌+◌, ◌-◌, ◌≤◌, List, ◌++◌, length, take, rules, arith, ap, sym, ◌∙◌, length-take-le}
use Rattle.std.proofs.Math.Seq.{take-append-add}
use Rattle.std.proofs.lemmas.List.{take-append-le}
use Rattle.std.proofs.KnownBytes.{Consumes-trans}
use borrow.Rule.Slice.PartMut.{put_mid, post_of}
use Rattle.input.proofs.read_up_to.Goals as goal

-- What a read put behind the first `at` bytes.
take_read : (at room n : ℕ) (xs part : List ℕ) → at ≤ length xs → n ≤ length part → take (at + n) (put_mid at room xs part) ≡ take at xs ++ take n part
take_read at room n xs part within fits =
    ap (λ k. take (k + n) (put_mid at room xs part)) (sym (length-take-le at xs within))
    ∙ take-append-add (take at xs) (part ++ post_of at room xs) n
    ∙ ap (λ l. take at xs ++ l) (take-append-le n part (post_of at room xs) fits)

pub loop-preserved : goal.loop-preserved
loop-preserved g c =
    let before = c.loop.invariant in
    let read = c.in_ok-got.ensures in
    record {
      turns = omega arith;
      within = search rules;
      bytes = rw (take_read c.loop.len (length c.loop.buffer - c.loop.len) c.in_ok-got.got c.loop.buffer c.read.new.buf before.within read.bound.0) (Consumes-trans _ _ _ _ _ before.bytes read.bytes.0);
    }
