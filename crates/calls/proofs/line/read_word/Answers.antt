use Rattle.std.proofs.Common.{◌≡◌, false, codes, rules}
use Rattle.std.specs.Option.{option_map}
use Rattle.std.specs.Str.{bytes_eq}
use Rattle.text.specs.Cut.{further}
use Rattle.calls.proofs.Fields.{asserted}
use Rattle.calls.proofs.line.read_word.Goals as goal
use Rattle.calls.proofs.line.read_word.Goals.{In_default}

no_or : (c : In_default) → bytes_eq c.args.word.now (codes "or") ≡ false
no_or c = search rules

pub returns-in_err-read_assertion-in_default : goal.returns-in_err-read_assertion-in_default
returns-in_err-read_assertion-in_default c =
    let fs = further (option_map (λ x. x.now) c.args.rest) in
    let told = asserted c.args.word.now fs _ (no_or (goal.at.returns-in_err-read_assertion-in_default c).In_default) c.in_err-read_assertion-in_default.ensures in
    rw (← told) (search rules)

pub returns-in_ok-read_assertion-in_default : goal.returns-in_ok-read_assertion-in_default
returns-in_ok-read_assertion-in_default c =
    let fs = further (option_map (λ x. x.now) c.args.rest) in
    asserted c.args.word.now fs _ (no_or (goal.at.returns-in_ok-read_assertion-in_default c).In_default) c.in_ok-read_assertion-in_default.ensures
