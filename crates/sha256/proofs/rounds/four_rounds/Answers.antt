use Rattle.sha256.proofs.Steps.{four-rounds}
use Rattle.sha256.proofs.rounds.four_rounds.Goals as goal

pub returns : goal.returns
returns c =
    four-rounds c.args.k c.args.w c.fits-k.0 c.fits-w.0 c.args.v c.one_round-v1.result
    c.one_round-v2.result c.one_round-v3.result c.one_round.result c.one_round-v1.ensures c.one_round-v2.ensures
    c.one_round-v3.ensures c.one_round.ensures
