use Rattle.std.proofs.Common.{◌≡◌, take, fold}
use Rattle.blocks.proofs.take_block.take_blocks.Given as goal

abbrev pub invariant-loop-block : goal.invariant-loop-block
invariant-loop-block g l = l.state ≡ fold g.H.TakeBlock.step l.fn.start (take l.block-index l.blocks)
