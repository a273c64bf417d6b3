use Rattle.std.proofs.Common.{◌≡◌, ◌+◌, ◌*◌, ◌≤◌, length}
use Rattle.std.specs.List.{range_with_len, flat_map}
use Rattle.arrays.specs.Items.{items}
use Rattle.interfaces.specs.States.{pcr_length}
use Rattle.conditions.specs.Picking.{byte_bits, picked_in}
use Rattle.conditions.proofs.Picks.{before}
use Rattle.conditions.proofs.picked.join_picked.Given as goal

abbrev pub invariant-loop-j : goal.invariant-loop-j
invariant-loop-j g l = record {
  within : length (items l.joined) ≤ pcr_length * (byte_bits * l.j);
  joined : items l.joined ≡ flat_map (picked_in l.selection.bytes (g.S.ReaderState.observed l.state).pcrs) (range_with_len 0 l.j);
}

abbrev pub invariant-loop-i : goal.invariant-loop-i
invariant-loop-i g l = record {
  within : length (items l.joined) ≤ pcr_length * (byte_bits * l.j + l.i);
  joined : items l.joined ≡ before l.selection.bytes (g.S.ReaderState.observed l.state).pcrs l.j l.i;
}
