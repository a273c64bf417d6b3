use Rattle.std.proofs.Common.{◌≡◌, map, sym, ap, ◌∙◌, rules}
use Rattle.interfaces.specs.contracts.digest.DigestPartialEq.TheImpl as derived
use Rattle.interfaces.specs.Checks.{refused_with, unless}
use Rattle.interfaces.specs.declared.code.Code.TheVariants.{Value}
use Rattle.policy.specs.Views.{digest_bytes}
use Rattle.session.specs.Steps.{among}
use Rattle.session.proofs.Among.{found_among}
use Rattle.session.proofs.progress.Progress.judge_digest.Goals as goal

pub returns-then-not-contains : goal.returns-then-not-contains
returns-then-not-contains c =
    let d = c.args.self.now.digest in
    let ds = c.args.digests.now in
    let found : c.contains.result ≡ among d.bytes (map digest_bytes ds) = c.contains.ensures.value ∙ found_among (derived.ghosts).eq (λ a b. search rules) d ds in
    sym (ap (λ b. refused_with (unless b Value) tt) (sym found ∙ c.if-not-contains.true))

pub returns : goal.returns
returns c =
    let d = c.args.self.now.digest in
    let ds = c.args.digests.now in
    let found : c.contains.result ≡ among d.bytes (map digest_bytes ds) = c.contains.ensures.value ∙ found_among (derived.ghosts).eq (λ a b. search rules) d ds in
    sym (ap (λ b. refused_with (unless b Value) tt) (sym found ∙ c.if-not-contains.false))
