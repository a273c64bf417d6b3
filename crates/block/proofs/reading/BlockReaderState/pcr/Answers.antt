use Rattle.std.proofs.Common.{◌≡◌, [], length, get_or, sym, ap, ◌∙◌, arith}
use Rattle.std.proofs.lemmas.List.FromFn.{get_or-map-range_with_len}
use Rattle.interfaces.specs.Checks.{left_in}
use Rattle.interfaces.specs.States.{pcr_count}
use Rattle.interfaces.proofs.Answered.{left_whole, pcr_read}
use Rattle.block.specs.Layout.{pcr_in}
use Rattle.block.specs.Views.{block_bytes, observed_block}
use Rattle.block.proofs.reading.BlockReaderState.pcr.Goals as goal

pub returns-clause-written : goal.returns-clause-written
returns-clause-written c =
    let s = observed_block c.args.self.now in
    let index = c.args.index in
    let room = length c.args.out.now in
    let fits = c.in_ok-admit_pcr.ensures.fits in
    let value = get_or s.pcrs index [] in
    let is : value ≡ pcr_in (block_bytes c.args.self.now) index = get_or-map-range_with_len (pcr_in (block_bytes c.args.self.now)) 0 pcr_count index index [] fits.1 (omega arith) in
    let copied = c.copy_from_slice.ensures.after ∙ c.register.ensures.is ∙ sym is in
    let long : length value ≡ room = ap length (is ∙ sym c.register.ensures.is) ∙ c.register.ensures.long ∙ sym fits.0 in
    copied ∙ sym (left_whole value room long) ∙ sym (ap (left_in room) (pcr_read s index room fits.0 fits.1))
