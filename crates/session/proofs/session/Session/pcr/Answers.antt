use Rattle.policy.specs.Assertions.{pcr}
use Rattle.calls.specs.Calls.{assert}
use Rattle.session.proofs.session.Session.pcr.Goals as goal

pub returns : goal.returns
returns g c = c.take.ensures (assert (pcr c.args.selection.bytes c.args.digest.now)) c.pcr.ensures
