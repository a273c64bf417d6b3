use Rattle.std.proofs.Common.{◌≡◌, ◌≤◌, length, get_or, sym, ap, ◌∙◌, arith, rules}
use Rattle.std.specs.Str.{bytes_eq}
use Rattle.arrays.specs.Items.{items}
use Rattle.interfaces.specs.Checks.{counted, fitting, left_in}
use Rattle.interfaces.specs.States.{held_value}
use Rattle.interfaces.proofs.Answered.{fitting_ok, stored_read}
use Rattle.tables.proofs.Places.{found_value, missing_value}
use Rattle.state.specs.Entries.{entry_of, value_bytes}
use Rattle.state.specs.Views.{own_snapshot}
use Rattle.state.specs.Lawful.{stored_short}
use Rattle.state.proofs.reading.OwnReaderState.stored_value.Goals as goal

pub returns-in_default : goal.returns-in_default
returns-in_default c =
    let v = c.args.self.now.values in
    let s = own_snapshot c.args.self.now in
    let name = c.args.name.now in
    let room = length c.args.out.now in
    let fits = c.in_ok-admit_stored.ensures.fits in
    let none = missing_value entry_of bytes_eq (items v.entries) name (sym c.place-found.ensures ∙ c.in_default.is) in
    let read = stored_read s name room fits.0 fits.1 ∙ ap held_value none in
    record { answer = sym (ap counted read); written = search rules ∙ sym (ap (left_in room) read) }

pub returns : goal.returns
returns c =
    let v = c.args.self.now.values in
    let s = own_snapshot c.args.self.now in
    let name = c.args.name.now in
    let room = length c.args.out.now in
    let fits = c.in_ok-admit_stored.ensures.fits in
    let e = c.index-as_slice-place.result in
    let value = value_bytes e.value in
    let here = found_value entry_of bytes_eq (items v.entries) name c.in-Some.place e (sym c.place-found.ensures ∙ c.in-Some.is) (c.index-as_slice-place.is ∙ ap (λ l. get_or l c.in-Some.place e) c.as_slice.ensures.value) in
    let read = stored_read s name room fits.0 fits.1 ∙ ap held_value here in
    let short : length value ≤ room = omega (arith, stored_short v name value here, fits.1) in
    let given : c.as_slice-2.result.now ≡ value = search rules in
    let kept : length c.admit_stored.new.out ≡ room = search rules in
    let ok = (λ i. fitting (given i) (kept i)) ∙ fitting_ok value room short in
    record {
      answer = c.fill.ensures.answer ∙ ap counted ok ∙ sym (ap counted read);
      written = c.fill.ensures.written ∙ (λ i. left_in (kept i) (ok i)) ∙ sym (ap (left_in room) read);
    }
