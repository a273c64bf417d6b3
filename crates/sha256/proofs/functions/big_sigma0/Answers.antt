use Rattle.sha256.specs.Functions.{Σ0, ROTR}
use Rattle.sha256.proofs.functions.big_sigma0.Goals as goal

pub returns : goal.returns
unfolding Σ0 ROTR
returns c = rw (c.rotate_right.ensures, c.rotate_right-2.ensures, c.rotate_right-3.ensures)
