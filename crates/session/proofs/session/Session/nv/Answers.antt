use Rattle.policy.specs.Assertions.{nv}
use Rattle.policy.specs.Views.{given_of}
use Rattle.calls.specs.Calls.{assert}
use Rattle.session.proofs.session.Session.nv.Goals as goal

pub returns : goal.returns
returns g c = c.take.ensures (assert (nv c.args.name.now (given_of c.args.comparison))) c.nv.ensures
