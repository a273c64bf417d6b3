use Rattle.std.proofs.Common.{sym}
use Rattle.sha256.specs.Functions.{Ch, complement}
use Rattle.sha256.proofs.Bitwise.{ch_same}
use Rattle.sha256.proofs.functions.ch.Goals as goal

pub returns : goal.returns
unfolding Ch complement
returns c = sym (ch_same 32 c.args.x c.args.y c.args.z c.ranges.x.fits c.ranges.y.fits c.ranges.z.fits)
