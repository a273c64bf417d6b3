use Rattle.std.proofs.Common.{sym}
use Rattle.sha256.specs.Functions.{Maj}
use Rattle.sha256.proofs.Bitwise.{maj_same}
use Rattle.sha256.proofs.functions.maj.Goals as goal

pub returns : goal.returns
unfolding Maj
returns c = sym (maj_same 32 c.args.x c.args.y c.args.z c.ranges.x.fits c.ranges.y.fits c.ranges.z.fits)
