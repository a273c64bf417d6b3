use Rattle.std.proofs.Common.{refl}
use Rattle.sha256.specs.Sha256.{zeros_after}
use Rattle.sha256.proofs.message.zeros_after.Goals as goal

pub returns-clause-value : goal.returns-clause-value
unfolding zeros_after
returns-clause-value c = refl
