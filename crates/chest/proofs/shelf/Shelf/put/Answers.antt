use Rattle.std.proofs.Common.{arith}
use Rattle.std.proofs.lemmas.List.{map-set}
use Rattle.chest.proofs.shelf.Shelf.put.Goals as goal

pub returns-clause-after : goal.returns-clause-after
returns-clause-after c = grind (arith, map-set)
