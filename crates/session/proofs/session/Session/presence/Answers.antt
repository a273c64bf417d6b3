use Rattle.std.proofs.Common.{refl}
use Rattle.policy.specs.Assertions.{presence}
use Rattle.calls.specs.Calls.{assert}
use Rattle.session.proofs.session.Session.presence.Goals as goal

pub take-requires : goal.take-requires
take-requires g c = (assert presence, refl)

pub returns : goal.returns
returns g c = c.take.ensures (assert presence) refl
