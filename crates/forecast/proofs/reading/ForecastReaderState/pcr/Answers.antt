use Rattle.std.proofs.Common.{◌≡◌, ◌<◌, eqb, [], length, get_or, Ok, Some, None, unwrap_or, sym, ap, ◌∙◌, arith, rules}
use Rattle.std.specs.Option.{option_map}
use Rattle.arrays.specs.Items.{items}
use Rattle.interfaces.specs.Checks.{done, left_in}
use Rattle.interfaces.specs.States.{read_pcr}
use Rattle.interfaces.proofs.Answered.{left_whole, pcr_read}
use Rattle.tables.specs.Tables.{value_under}
use Rattle.tables.proofs.Places.{value_is}
use Rattle.forecast.specs.Plans.{forecast_snapshot}
use Rattle.forecast.specs.Views.{plan_of, plans_of}
use Rattle.forecast.specs.Overlays.{overlaid_at}
use Rattle.forecast.proofs.reading.ForecastReaderState.pcr.Goals as goal

pub returns-in_default : goal.returns-in_default
returns-in_default g c =
    let f = c.args.self.now in
    let s = g.S.ReaderState.observed f.below in
    let plans = plans_of f.planned in
    let index = c.args.index in
    let room = length c.args.out.now in
    let fits = c.in_ok-admit_pcr.ensures.fits in
    let within : index < length s.pcrs = omega (arith, fits.1, (g.met.S.ReaderState.lawful f.below).pcrs_all) in
    let none : value_under eqb plans index ≡ None = sym (value_is plan_of eqb (items f.planned) index) ∙ ap (option_map (λ e. (plan_of e).1)) (sym c.in_default.ensures) in
    let here = overlaid_at plans 0 index s.pcrs index [] (omega arith) within ∙ ap (λ o. unwrap_or o (get_or s.pcrs index [])) none in
    let read = pcr_read s index room fits.0 fits.1 ∙ sym (pcr_read (forecast_snapshot plans s) index room fits.0 fits.1 ∙ ap Ok here) in
    let kept : length c.admit_pcr.new.out ≡ room = search rules in
    record {
      answer = c.pcr.ensures.answer ∙ ap (λ n. done (read_pcr s index n)) kept ∙ ap done read;
      written = c.pcr.ensures.written ∙ ap (λ n. left_in n (read_pcr s index n)) kept ∙ ap (left_in room) read;
    }

pub returns : goal.returns
returns g c =
    let f = c.args.self.now in
    let s = g.S.ReaderState.observed f.below in
    let plans = plans_of f.planned in
    let index = c.args.index in
    let room = length c.args.out.now in
    let fits = c.in_ok-admit_pcr.ensures.fits in
    let within : index < length s.pcrs = omega (arith, fits.1, (g.met.S.ReaderState.lawful f.below).pcrs_all) in
    let found : value_under eqb plans index ≡ Some (plan_of c.in-Some.planned.now).1 = sym (value_is plan_of eqb (items f.planned) index) ∙ ap (option_map (λ e. (plan_of e).1)) (sym c.in-Some.ensures) in
    let here = overlaid_at plans 0 index s.pcrs index [] (omega arith) within ∙ ap (λ o. unwrap_or o (get_or s.pcrs index [])) found in
    let out = c.copy_from_slice.new.self in
    let read = pcr_read (forecast_snapshot plans s) index room fits.0 fits.1 ∙ ap Ok (here ∙ sym c.copy_from_slice.ensures.after) in
    let long : length out ≡ room = search rules in
    record {
      answer = sym (ap done read);
      written = sym (ap (left_in room) read ∙ left_whole out room long);
    }
