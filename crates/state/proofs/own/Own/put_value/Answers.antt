use Rattle.std.proofs.Common.{◌≡◌, length, Err, sym, refl, ap, ◌∙◌}
use Rattle.std.specs.Str.{bytes_eq}
use Rattle.std.proofs.lemmas.Result.{err_from_is_err_and}
use Rattle.interfaces.specs.Checks.{first, refused_with, settled}
use Rattle.tables.specs.Tables.{full_flaw, put_under}
use Rattle.state.specs.Changes.{lengths_flaw, put_flaw, with_value}
use Rattle.state.specs.Entries.{entry_of, value_count}
use Rattle.state.specs.Views.{held, own_snapshot}
use Rattle.state.proofs.Changed.{holding, with_held, put_settled, passed, refused}
use Rattle.state.proofs.own.Own.put_value.Goals as goal

pub returns-in_err-named : goal.returns-in_err-named
returns-in_err-named c =
    let v = c.args.self.now.values in
    let s = own_snapshot c.args.self.now in
    let name = c.args.name.now in
    let value = c.args.value.now in
    let full = full_flaw bytes_eq value_count (held v) name in
    let flaw = refused (lengths_flaw name value) c.in_err-named.field-0.0 (name, value) c.in_err-named.ensures in
    let p = err_from_is_err_and c.from_residual.result c.from_residual.ensures.1 in
    record {
      number = length (held v);
      holding = holding v s refl;
      answer = p.1 ∙ ap Err p.2 ∙ sym (ap (λ f. refused_with (first f full) tt) flaw);
      after = sym (ap (λ f. settled (first f full) (with_value s name value) s) flaw);
    }

pub returns : goal.returns
returns c =
    let v = c.args.self.now.values in
    let s = own_snapshot c.args.self.now in
    let name = c.args.name.now in
    let value = c.args.value.now in
    let e = entry_of c.in_ok-named.field-0 in
    let checked = passed (lengths_flaw name value) e (name, value) c.in_ok-named.ensures in
    let put : full_flaw bytes_eq value_count (held v) e.0 ≡ put_flaw s (length (held v)) name value = ap (λ p. full_flaw bytes_eq value_count (held v) p.0) checked.1 ∙ sym (ap (λ f. first f (full_flaw bytes_eq value_count (held v) name)) checked.0) in
    let after = c.put.ensures.after ∙ (λ i. settled (put i) (put_under bytes_eq (held v) (checked.1 i).0 (checked.1 i).1) (held v)) in
    record {
      number = length (held v);
      holding = holding v s refl;
      answer = c.put.ensures.answer ∙ ap (λ f. refused_with f tt) put;
      after = ap (with_held s) after ∙ put_settled s (held v) name value (put_flaw s (length (held v)) name value);
    }
