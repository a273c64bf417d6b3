use Rattle.std.specs.Prelude.{◌≡◌}
use Rattle.interfaces.specs.Checks.{settled}
use Rattle.state.specs.Changes.{extend_flaw, with_pcr_extended}
use Rattle.reader.specs.Plain.{carried}
use Rattle.reader.proofs.reader.Reader.extend.Goals as goal

pub returns-clause-after : goal.returns-clause-after
returns-clause-after c = carried _ _ _ (λ s t. t ≡ settled (extend_flaw s c.args.index c.args.value.now) (with_pcr_extended s c.args.index c.args.value.now) s) c.args.self.now.unplanned c.extend.ensures.after
