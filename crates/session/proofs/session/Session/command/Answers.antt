use Rattle.std.proofs.Common.{refl}
use Rattle.policy.specs.Assertions.{command}
use Rattle.calls.specs.Calls.{assert}
use Rattle.session.proofs.session.Session.command.Goals as goal

pub take-requires : goal.take-requires
take-requires g c = (assert (command c.args.code), refl)

pub returns : goal.returns
returns g c = c.take.ensures (assert (command c.args.code)) refl
