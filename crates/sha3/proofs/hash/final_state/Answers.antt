use Rattle.std.proofs.Common.{◌/◌, ◌++◌, length, ap, ◌∙◌, arith}
use Rattle.blocks.proofs.Absorbed.{absorb_one, in_two}
use Rattle.sha3.specs.Sha3.{padding, pad, taken, S0}
use Rattle.sha3.proofs.Padded.{blocks_pad, same-padding}
use Rattle.sha3.proofs.hash.final_state.Goals as goal

pub returns : goal.returns
unfolding pad S0
returns c =
    let text = c.args.text.now in
    let rest = c.take_blocks.result.1.now in
    let same = same-padding (length rest) (length text) (omega arith) in
    let padded = c.last_block-last.ensures ∙ ap (λ p. rest ++ p) same in
    let last = absorb_one taken 136 c.last_block-last.result c.take_blocks.result.0 (omega arith) in
    cc (in_two taken 136 (length text / 136) 1 text (padding (length text)) S0 (omega arith), blocks_pad text)
