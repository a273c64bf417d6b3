use Rattle.sha3.proofs.Padded.{last_block}
use Rattle.sha3.proofs.message.last_block.Goals as goal

pub returns : goal.returns
returns c =
    last_block c.args.rest.now c.copy_from_slice.new.self c.requires c.copy_from_slice.ensures.after
