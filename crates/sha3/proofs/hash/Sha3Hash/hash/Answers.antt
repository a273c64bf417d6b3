use Rattle.std.proofs.Common.{rules}
use Rattle.sha3.specs.Sha3.{sha3_256}
use Rattle.sha3.proofs.hash.Sha3Hash.hash.Goals as goal

pub returns : goal.returns
unfolding sha3_256
returns c = let h = c.in_ok-admit.ensures.answer in search rules
