use Rattle.std.proofs.Common.{◌≡◌, ◌/◌, ◌++◌, length, ap, ◌∙◌, arith, rules}
use Rattle.arrays.specs.Items.{items}
use Rattle.blocks.proofs.Absorbed.{in_two}
use Rattle.sha256.specs.Constants.{H0}
use Rattle.sha256.specs.Sha256.{padding, pad, compress}
use Rattle.sha256.proofs.Padded.{blocks_pad}
use Rattle.sha256.proofs.hash.hash_value.Goals as goal

pub returns : goal.returns
unfolding pad
returns c =
    let text = c.args.text.now in
    let rest = c.take_blocks.result.1.now in
    let put : items c.extend.new.self ≡ rest = search rules in
    let tail = c.as_slice.ensures.value ∙ (c.pad.ensures ∙ ap (λ r. r ++ padding (length text)) put) in
    let n = length c.as_slice.result.now / 64 in
    let all = blocks_pad text rest c.take_blocks.ensures.short in
    cc (in_two compress 64 (length text / 64) n text (padding (length text)) H0 (omega arith))
