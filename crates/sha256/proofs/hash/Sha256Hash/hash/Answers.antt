use Rattle.std.proofs.Common.{rules}
use Rattle.sha256.specs.Sha256.{sha256}
use Rattle.sha256.proofs.hash.Sha256Hash.hash.Goals as goal

pub returns : goal.returns
unfolding sha256
returns c = let h = c.in_ok-admit.ensures.answer in search rules
