use Rattle.std.proofs.Common.{◌≡◌, sym, subst, rules}
use Rattle.tables.proofs.Bytes.{Small}
use Rattle.block.proofs.judging.BlockTryFromRefSliceU8.try_from.Goals as goal

pub invariant_of-result-clause-small : goal.invariant_of-result-clause-small
invariant_of-result-clause-small c =
    let is : c.in_ok-bytes.bytes.now ≡ c.args.bytes.now = search rules in
    subst Small (sym is) (λ k. (c.type_inv.bytes k).fits)
