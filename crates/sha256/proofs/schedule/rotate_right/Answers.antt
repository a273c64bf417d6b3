use Rattle.sha256.specs.Functions.{ROTR}
use Rattle.sha256.proofs.Lanes.{four}
use Rattle.sha256.proofs.schedule.rotate_right.Goals as goal

pub returns : goal.returns
unfolding ROTR
returns c = rw (four c.args.x c.fits-x.0)
