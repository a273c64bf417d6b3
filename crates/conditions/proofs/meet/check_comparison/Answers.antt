use Rattle.std.proofs.Common.{arith, rules}
use Rattle.policy.specs.Views.{comparison_of}
use Rattle.conditions.proofs.Unmet.{compared}
use Rattle.conditions.proofs.meet.check_comparison.Goals as goal

pub returns-then-not-compare : goal.returns-then-not-compare
returns-then-not-compare c =
    let told = compared c.args.past c.args.value.now (comparison_of c.args.comparison.now) c.as_slice-operand.result.now _ _ c.as_slice-operand.ensures (omega arith) (omega arith) c.compare.ensures in
    search rules

pub returns : goal.returns
returns c =
    let told = compared c.args.past c.args.value.now (comparison_of c.args.comparison.now) c.as_slice-operand.result.now _ _ c.as_slice-operand.ensures (omega arith) (omega arith) c.compare.ensures in
    search rules
