use Rattle.std.proofs.Common.{refl}
use Rattle.policy.specs.Assertions.{password}
use Rattle.calls.specs.Calls.{assert}
use Rattle.session.proofs.session.Session.password.Goals as goal

pub take-requires : goal.take-requires
take-requires g c = (assert password, refl)

pub returns : goal.returns
returns g c = c.take.ensures (assert password) refl
