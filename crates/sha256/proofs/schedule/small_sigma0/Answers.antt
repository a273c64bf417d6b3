use Rattle.sha256.specs.Functions.{σ0, SHR}
use Rattle.sha256.proofs.Lanes.{four}
use Rattle.sha256.proofs.schedule.small_sigma0.Goals as goal

pub returns : goal.returns
unfolding σ0 SHR
returns c = rw (c.rotate_right.ensures, c.rotate_right-2.ensures, four c.args.x c.fits-x.0)
