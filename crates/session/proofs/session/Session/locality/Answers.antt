use Rattle.policy.specs.Assertions.{locality}
use Rattle.calls.specs.Calls.{assert}
use Rattle.session.proofs.Stepping.{worked_sets}
use Rattle.session.proofs.session.Session.locality.Goals as goal

pub returns : goal.returns
returns g c = record { sets = worked_sets; makes = c.take.ensures (assert (locality c.args.set)) c.locality.ensures }
