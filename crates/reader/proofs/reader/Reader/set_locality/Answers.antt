use Rattle.std.specs.Prelude.{◌≡◌}
use Rattle.interfaces.specs.Checks.{settled}
use Rattle.state.specs.Changes.{set_locality_flaw, with_locality}
use Rattle.reader.specs.Plain.{carried}
use Rattle.reader.proofs.reader.Reader.set_locality.Goals as goal

pub returns-clause-after : goal.returns-clause-after
returns-clause-after c = carried _ _ _ (λ s t. t ≡ settled (set_locality_flaw c.args.locality) (with_locality s c.args.locality) s) c.args.self.now.unplanned c.set_locality.ensures.after
