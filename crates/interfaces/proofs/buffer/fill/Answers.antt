use Rattle.std.proofs.Common.{length, sym, ap, ◌∙◌, arith}
use Rattle.interfaces.specs.Checks.{counted, left_in}
use Rattle.interfaces.proofs.Answered.{fitting_ok, over_zeros}
use Rattle.interfaces.proofs.buffer.fill.Goals as goal

pub returns : goal.returns
returns c =
    let bs = c.args.bytes.now in
    let room = length c.args.out.now in
    let ok = fitting_ok bs room (omega arith) in
    record {
      answer = ap counted (sym ok);
      written = over_zeros bs _ _ room _ c.copy_from_slice.ensures.after c.clear.ensures (omega arith) ∙ ap (left_in room) (sym ok);
    }
