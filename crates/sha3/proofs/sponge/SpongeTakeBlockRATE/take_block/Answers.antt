use Rattle.sha3.specs.Sha3.{taken}
use Rattle.sha3.proofs.sponge.SpongeTakeBlockRATE.take_block.Goals as goal

pub returns : goal.returns
unfolding taken
returns c = cc
