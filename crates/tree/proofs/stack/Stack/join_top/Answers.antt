use Rattle.std.proofs.Common.{arith}
use Rattle.std.proofs.lemmas.Grind.{common_steps}
use Rattle.std.proofs.lemmas.List.{drop-map}
use Rattle.tree.proofs.stack.Stack.join_top.Goals as goal

pub returns : goal.returns
returns g c = grind (arith, common_steps, drop-map)
