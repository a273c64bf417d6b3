use Rattle.sha256.specs.Sha256.{compress}
use Rattle.sha256.proofs.compression.CompressionTakeBlockBLOCK.take_block.Goals as goal

pub returns : goal.returns
unfolding compress
returns c = cc
