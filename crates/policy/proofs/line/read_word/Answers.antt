use Rattle.std.proofs.Common.{◌≡◌, false, codes, arith, rules}
use Rattle.std.specs.Option.{option_map}
use Rattle.std.specs.Str.{bytes_eq}
use Rattle.text.specs.Cut.{further}
use Rattle.interfaces.specs.Hashing.{digest_length}
use Rattle.policy.specs.Lines.{extend, line_flaw}
use Rattle.policy.specs.Reading.{parse_assertion, judged}
use Rattle.policy.specs.Views.{meant, line_of}
use Rattle.policy.proofs.Extensions.{extension}
use Rattle.policy.proofs.Words.{spelled, misspelled}
use Rattle.policy.proofs.line.read_word.Goals as goal
use Rattle.policy.proofs.line.read_word.Goals.{In_default}

pub returns-in_ok-ok_or-in-start : goal.returns-in_ok-ok_or-in-start
returns-in_ok-ok_or-in-start c = rw (spelled c.args.word.now (codes "start") (omega arith)) (search rules)

neither : (c : In_default) → (bytes_eq c.args.word.now (codes "start") ≡ false) × (bytes_eq c.args.word.now (codes "any") ≡ false)
neither c =
    let word = c.args.word.now in
    (misspelled word (codes "start") (λ s. grind arith), misspelled word (codes "any") (λ s. grind arith))

pub returns-in_ok-read_assertion-in_default : goal.returns-in_ok-read_assertion-in_default
returns-in_ok-read_assertion-in_default c =
    let parsed = parse_assertion c.args.word.now (further (option_map (λ x. x.now) c.args.rest)) in
    let n = neither (goal.at.returns-in_ok-read_assertion-in_default c).In_default in
    rw (n.0, n.1) (extension parsed _ c.in_ok-read_assertion-in_default.ensures)

pub returns-in_err-read_assertion-in_default : goal.returns-in_err-read_assertion-in_default
returns-in_err-read_assertion-in_default c =
    let parsed = parse_assertion c.args.word.now (further (option_map (λ x. x.now) c.args.rest)) in
    let n = neither (goal.at.returns-in_err-read_assertion-in_default c).In_default in
    let told = extension parsed _ c.in_err-read_assertion-in_default.ensures in
    let failed : meant line_of c.from_residual-in_err-read_assertion-in_default.result ≡ judged (line_flaw digest_length) (option_map extend parsed) = search rules in
    rw (n.0, n.1) failed
