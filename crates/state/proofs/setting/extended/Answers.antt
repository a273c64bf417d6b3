use Rattle.std.proofs.Common.{◌≡◌, ◌++◌, sym, subst, rules}
use Rattle.sha256.specs.Sha256.{sha256}
use Rattle.sha256.specs.Digests.{bytes}
use Rattle.tables.proofs.Bytes.{Small, bytes_small}
use Rattle.state.proofs.setting.extended.Goals as goal

pub invariant_of-result-clause-small : goal.invariant_of-result-clause-small
invariant_of-result-clause-small c =
    let text = c.args.old.now.bytes ++ c.args.new.now.bytes in
    let is : c.unwrap-digest.result.bytes ≡ sha256 text = search rules in
    subst Small (sym is) (bytes_small (sha256 text) (bytes text))
