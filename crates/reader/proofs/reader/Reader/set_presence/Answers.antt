use Rattle.std.specs.Prelude.{◌≡◌}
use Rattle.state.specs.Changes.{with_presence}
use Rattle.state.specs.Views.{own_snapshot}
use Rattle.reader.specs.Plain.{carried}
use Rattle.reader.proofs.reader.Reader.set_presence.Goals as goal

pub returns : goal.returns
returns c = carried _ (own_snapshot c.args.self.now.state.below) _ (λ s t. t ≡ with_presence s c.args.presence) c.args.self.now.unplanned c.set_presence.ensures
