use Rattle.state.specs.Changes.{Put}
use Rattle.reader.specs.Plain.{carried}
use Rattle.reader.proofs.reader.Reader.put_value.Goals as goal

pub returns : goal.returns
returns c = carried _ _ _ (λ s t. Put s c.args.name.now c.args.value.now c.put_value.result t) c.args.self.now.unplanned c.put_value.ensures
