-- Laws of items put where there is room.
use Rattle.std.proofs.Common.{◌≡◌, ℕ, ◌+◌, ◌≤◌, List, ◌++◌, length, Ok, Err, Result, arith}
use Rattle.arrays.specs.declared.array_vec.Full.{Full}
use Rattle.arrays.specs.Items.{Puts}

pub put_fits : {T : Type 0} (room : ℕ) (old more : List T) (r : Result (Unit {0}) Full) (new : List T) → length old + length more ≤ room → Puts room old more r new → new ≡ old ++ more
put_fits room old more (Ok u) new fits p = p.joined
put_fits room old more (Err e) new fits p = absurd (let over = p.over in omega arith)
