use Rattle.std.proofs.Common.{◌≡◌, ◌++◌, map, Ok, ap, ◌∙◌, arith, rules}
use Rattle.std.specs.List.{flat_map}
use Rattle.std.proofs.lemmas.List.{length-map}
use Rattle.interfaces.specs.Hashing.{zeros}
use Rattle.policy.specs.Lines.{be4}
use Rattle.policy.specs.Strings.{or_code}
use Rattle.policy.specs.Views.{meant, digest_bytes}
use Rattle.policy.proofs.Joins.{any_of_eight, join_some, join_written}
use Rattle.policy.proofs.extend.join_digests.Goals as goal

pub returns-then-digests-lt-FEWEST_TREES-clause-any_case : goal.returns-then-digests-lt-FEWEST_TREES-clause-any_case
returns-then-digests-lt-FEWEST_TREES-clause-any_case g c = any_of_eight

pub returns-clause-any_case : goal.returns-clause-any_case
returns-clause-any_case g c = any_of_eight

pub returns-clause-value : goal.returns-clause-value
returns-clause-value g c =
    let h = g.H.Hash.meaning c.args.hash.now in
    let digests = c.args.digests.now in
    let count = length-map digests digest_bytes in
    let text : c.as_slice.result.now ≡ (zeros h ++ be4 or_code) ++ flat_map digest_bytes digests = search rules in
    let hashed : meant digest_bytes c.of.result ≡ Ok (h.digest c.as_slice.result.now) = search rules in
    hashed ∙ ap (λ t. Ok (h.digest t)) (text ∙ join_written h digest_bytes digests) ∙ join_some h (map digest_bytes digests) (omega arith) (omega arith)
