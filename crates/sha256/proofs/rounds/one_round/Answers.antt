use Rattle.std.proofs.Common.{get_or}
use Rattle.sha256.specs.Sha256.{round, T1, T2}
use Rattle.sha256.proofs.Sums.{four_terms}
use Rattle.sha256.proofs.rounds.one_round.Goals as goal

pub returns : goal.returns
unfolding round T1 T2
returns c = cc (four_terms (get_or c.args.v 7 0) c.big_sigma1.result c.ch.result c.args.sum)
