-- What a block's value means: the bytes that it reads.
use Rattle.std.specs.Prelude.{ℕ, List}
use Rattle.interfaces.specs.States.{Snapshot}
use Rattle.block.specs.declared.block.Block.{Block}
use Rattle.block.specs.Layout.{block_snapshot}

abbrev pub block_bytes : Block → List ℕ
block_bytes b = b.bytes.now

abbrev pub observed_block : Block → Snapshot
observed_block b = block_snapshot (block_bytes b)
