use Rattle.std.proofs.lemmas.List.{take_all}
use Rattle.blocks.specs.Blocks.{absorb}
use Rattle.blocks.proofs.take_block.take_blocks.Goals as goal

pub returns-clause-state : goal.returns-clause-state
unfolding absorb
returns-clause-state g c =
    let all = take_all c.loop-block.block-index c.as_chunks.result.0.now c.loop-block-test.false in
    cc
