use Rattle.std.proofs.Common.{arith}
use Rattle.std.proofs.lemmas.Grind.{common_steps}
use Rattle.std.proofs.lemmas.List.{map_push, take-map}
use Rattle.tree.proofs.stack.Stack.replace.Goals as goal

pub returns-clause-digests : goal.returns-clause-digests
returns-clause-digests c = grind (arith, common_steps, map_push, take-map)
