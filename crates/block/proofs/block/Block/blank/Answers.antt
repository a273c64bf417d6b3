use Rattle.tables.proofs.Bytes.{zeros-small}
use Rattle.block.specs.Layout.{block_length}
use Rattle.block.proofs.block.Block.blank.Goals as goal

pub invariant_of-result-clause-small : goal.invariant_of-result-clause-small
invariant_of-result-clause-small c = zeros-small block_length
