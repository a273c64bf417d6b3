use Rattle.policy.specs.Assertions.{time}
use Rattle.policy.specs.Views.{given_of}
use Rattle.calls.specs.Calls.{assert}
use Rattle.session.proofs.session.Session.time.Goals as goal

pub returns : goal.returns
returns g c = c.take.ensures (assert (time (given_of c.args.comparison))) c.time.ensures
