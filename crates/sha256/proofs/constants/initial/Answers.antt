use Rattle.std.proofs.Common.{refl}
use Rattle.sha256.specs.Constants.{H0}
use Rattle.sha256.proofs.constants.initial.Goals as goal

pub returns : goal.returns
unfolding H0
returns c = refl
