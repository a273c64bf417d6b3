use Rattle.std.proofs.Math.Seq.{take-set-lt}
use Rattle.arrays.proofs.array_vec.ArrayVec.set.Goals as goal

pub returns-then-at-self : goal.returns-then-at-self
returns-then-at-self g c = take-set-lt _ _ _ _ c.if-at-self.true
