use Rattle.std.proofs.Common.{◌≡◌, [], ◌++◌, length, take, get_or, ap, ◌∙◌, arith, rules}
use Rattle.std.proofs.lemmas.List.{take_more, flat_map_more, length-append}
use Rattle.arrays.specs.Items.{items}
use Rattle.sha256.specs.Sha256.{word_bytes}
use Rattle.sha256.proofs.message.digest.Goals as goal

pub loop-word-preserved : goal.loop-word-preserved
unfolding word_bytes
loop-word-preserved c =
    let joined : items c.extend.new.self ≡ items c.loop-word.digest ++ c.to_be_bytes.result = search rules in
    let more = take_more c.args.h c.loop-word.word-index 0 (omega arith) in
    let joins = flat_map_more word_bytes [] (take c.loop-word.word-index c.args.h) (get_or c.args.h c.loop-word.word-index 0) in
    let long = ap length joined ∙ length-append (items c.loop-word.digest) c.to_be_bytes.result in
    let four = ap length c.to_be_bytes.ensures in
    (omega arith, cc)
