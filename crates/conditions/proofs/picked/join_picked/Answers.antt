use Rattle.std.proofs.Common.{◌≡◌, ◌+◌, true, false, length, get_or, arith, rules}
use Rattle.arrays.specs.Items.{items}
use Rattle.interfaces.specs.States.{pcr_length}
use Rattle.conditions.specs.Picking.{bit}
use Rattle.conditions.proofs.Picks.{picks, skips, byte_done}
use Rattle.conditions.proofs.picked.join_picked.Goals as goal
use Rattle.conditions.proofs.picked.join_picked.Goals.{then-is_set, else-is_set}

pub loop-i-preserved : goal.loop-i-preserved
loop-i-preserved g c =
    let selection = c.args.selection.now.bytes in
    let pcrs = (g.S.ReaderState.observed c.args.state.now).pcrs in
    let j = c.loop-j.j in
    let i = c.loop-i.i in
    elim c.if-is_set.branch [
      | then-is_set w ↦
          let set : bit (get_or selection j 0) i ≡ true = cc in
          let p = picks selection pcrs j i set in
          let long : length (items c.if-is_set.joined) ≡ length (items c.loop-i.joined) + pcr_length = search rules in
          record { within = omega arith; joined = cc }
      | else-is_set w ↦
          let clear : bit (get_or selection j 0) i ≡ false = cc in
          let p = skips selection pcrs j i clear in
          let long : length (items c.if-is_set.joined) ≡ length (items c.loop-i.joined) = search rules in
          record { within = omega arith; joined = cc }
    ]

pub loop-j-preserved : goal.loop-j-preserved
loop-j-preserved g c =
    let pcrs = (g.S.ReaderState.observed c.args.state.now).pcrs in
    let p = byte_done c.args.selection.now.bytes pcrs c.loop-j.j c.loop-i.i (omega arith) in
    record { within = omega arith; joined = cc }
