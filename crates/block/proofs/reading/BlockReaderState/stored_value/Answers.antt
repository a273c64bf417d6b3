use Rattle.std.proofs.Common.{◌≡◌, length, sym, ap, ◌∙◌, arith, rules}
use Rattle.interfaces.specs.Checks.{counted, fitting, left_in}
use Rattle.interfaces.specs.States.{held_value}
use Rattle.interfaces.proofs.Answered.{fitting_ok, stored_read}
use Rattle.block.specs.Layout.{value_in}
use Rattle.block.specs.Views.{block_bytes, observed_block}
use Rattle.block.specs.Entries.{no_value, place_within, placed_value, value_short}
use Rattle.block.specs.Ranges.{ranges}
use Rattle.block.proofs.reading.BlockReaderState.stored_value.Goals as goal

pub returns-in_default : goal.returns-in_default
returns-in_default c =
    let name = c.args.name.now in
    let room = length c.args.out.now in
    let fits = c.in_ok-admit_stored.ensures.fits in
    let none = no_value (block_bytes c.args.self.now) name c.in_default.ensures in
    let read = stored_read (observed_block c.args.self.now) name room fits.0 fits.1 ∙ ap held_value none in
    record { answer = sym (ap counted read); written = search rules ∙ sym (ap (left_in room) read) }

pub value-requires : goal.value-requires
value-requires c = place_within (block_bytes c.args.self.now) c.args.name.now c.in-Some.place c.in-Some.ensures

pub returns : goal.returns
returns c =
    let bs = block_bytes c.args.self.now in
    let name = c.args.name.now in
    let room = length c.args.out.now in
    let place = c.in-Some.place in
    let fits = c.in_ok-admit_stored.ensures.fits in
    let value = value_in bs place in
    let read = stored_read (observed_block c.args.self.now) name room fits.0 fits.1 ∙ ap held_value (placed_value bs name place c.in-Some.ensures) in
    let short = value_short bs place ((ranges bs c.args.self.now.sound).lengths place (place_within bs name place c.in-Some.ensures)) in
    let kept : length c.admit_stored.new.out ≡ room = search rules in
    let ok = (λ i. fitting (c.value.ensures i) (kept i)) ∙ fitting_ok value room (omega (arith, short, fits.1)) in
    record {
      answer = c.fill.ensures.answer ∙ ap counted ok ∙ sym (ap counted read);
      written = c.fill.ensures.written ∙ (λ i. left_in (kept i) (ok i)) ∙ sym (ap (left_in room) read);
    }
