use Rattle.std.proofs.Common.{◌≡◌, length, take, Ok, sym, refl, ◌∙◌, rules}
use Rattle.interfaces.specs.declared.code.Code.TheVariants.{NvRange}
use Rattle.interfaces.specs.States.{name_length, value_limit}
use Rattle.policy.specs.Views.{comparison_of}
use Rattle.conditions.specs.Meeting.{comparison_unmet}
use Rattle.conditions.proofs.Left.{stored_left}
use Rattle.conditions.proofs.Unmet.{called}
use Rattle.conditions.proofs.meet.check_stored.Goals as goal

pub returns : goal.returns
returns g c =
    let s = g.S.ReaderState.observed c.args.state.now in
    let name = c.args.name.now.bytes in
    let k = comparison_of c.args.comparison.now in
    let long : length name ≡ name_length = search rules in
    let out = c.stored_value.new.out in
    let told : c.stored_value.result ≡ Ok c.in_ok-len.len = search rules in
    let held = stored_left s name out c.in_ok-len.len value_limit long refl (sym told ∙ c.stored_value.ensures.answer) c.stored_value.ensures.written in
    let reported = called (comparison_unmet NvRange (take c.in_ok-len.len out) k) _ _ c.check_comparison.ensures c.map_err-2.ensures.cases in
    rw held reported
