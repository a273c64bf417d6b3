use Rattle.std.proofs.Common.{length, Ok, rules}
use Rattle.tree.proofs.Meanings.{means}
use Rattle.tree.proofs.digest.digest_text.Goals as goal

pub returns-in_err-digest-clause-means : goal.returns-in_err-digest-clause-means
returns-in_err-digest-clause-means g c = search (rules, means)

pub returns-clause-means : goal.returns-clause-means
returns-clause-means g c = means (g.H.Hash.meaning c.args.hash.now) c.args.text.now (length c.args.out.now) (Ok c.in_ok-digest.summary) c.copy_from_slice.new.self (search rules) (search rules)
