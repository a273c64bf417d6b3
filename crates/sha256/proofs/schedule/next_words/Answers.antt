use Rattle.sha256.proofs.Growth.{next_four}
use Rattle.sha256.proofs.schedule.next_words.Goals as goal

pub returns : goal.returns
returns c =
    next_four c.args.a c.args.b c.args.c c.args.d c.fits-a.0 c.fits-b.0 c.fits-c.0 c.fits-d.0
    c.small_sigma0.result c.small_sigma1.result c.small_sigma1-2.result c.small_sigma0.ensures c.small_sigma1.ensures
    c.small_sigma1-2.ensures
