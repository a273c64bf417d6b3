use Rattle.sha256.specs.Functions.{Σ1, ROTR}
use Rattle.sha256.proofs.functions.big_sigma1.Goals as goal

pub returns : goal.returns
unfolding Σ1 ROTR
returns c = rw (c.rotate_right.ensures, c.rotate_right-2.ensures, c.rotate_right-3.ensures)
