use Rattle.std.proofs.Common.{map}
use Rattle.calls.specs.Calls.{or}
use Rattle.session.proofs.session.Session.or.Goals as goal

pub returns : goal.returns
returns g c = c.take.ensures (or (map (λ x. x.now) c.args.digests.now)) c.or.ensures
