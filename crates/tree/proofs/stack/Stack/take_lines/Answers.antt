use Rattle.std.proofs.Common.{rules}
use Rattle.std.specs.Iterator.Adapters.{enumerate_source}
use Rattle.tree.specs.Views.{shows}
use Rattle.tree.proofs.Along.{along_more, along_stopped}
use Rattle.tree.proofs.stack.Stack.take_lines.Goals as goal

pub loop-i-preserved : goal.loop-i-preserved
loop-i-preserved g c =
    let step = c.in-Some.ensures.steps in
    (search rules, search rules, along_more _ _ _ _ (enumerate_source c.next.new.self).rest.now _ _ step.0 c.loop-i.invariant.2 _ _ _ c.take_line.ensures (search rules) step.2)

pub returns-in_err-map_err : goal.returns-in_err-map_err
returns-in_err-map_err g c =
    along_stopped _ _ _ _ (enumerate_source c.next.new.self).rest.now _ _ c.in-Some.ensures.steps.0 c.loop-i.invariant.2 (λ _. shows c.take_line.new.self) c.take_line.new.self c.take_line.result _ c.take_line.ensures (λ e. search rules) (λ x e. search rules)
