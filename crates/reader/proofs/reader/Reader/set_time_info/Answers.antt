use Rattle.std.specs.Prelude.{◌≡◌}
use Rattle.interfaces.specs.Checks.{settled}
use Rattle.state.specs.Changes.{set_time_flaw, with_time}
use Rattle.reader.specs.Plain.{carried}
use Rattle.reader.proofs.reader.Reader.set_time_info.Goals as goal

pub returns-clause-after : goal.returns-clause-after
returns-clause-after c = carried _ _ _ (λ s t. t ≡ settled (set_time_flaw c.args.info.now) (with_time s c.args.info.now) s) c.args.self.now.unplanned c.set_time_info.ensures.after
