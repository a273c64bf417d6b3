use Rattle.std.proofs.Common.{◌≡◌, [], ◌++◌, length, take, get_or, ap, ◌∙◌, arith, rules}
use Rattle.std.proofs.lemmas.List.{take_more, flat_map_more, length-append}
use Rattle.arrays.specs.Items.{items}
use Rattle.sha3.specs.Sha3.{lane_bytes}
use Rattle.sha3.proofs.message.digest.Goals as goal

pub loop-lane-preserved : goal.loop-lane-preserved
unfolding lane_bytes
loop-lane-preserved c =
    let lanes = take 4 c.args.s in
    let joined : items c.extend.new.self ≡ items c.loop-lane.digest ++ c.to_le_bytes.result = search rules in
    let more = take_more lanes c.loop-lane.lane-index 0 (omega arith) in
    let joins = flat_map_more lane_bytes [] (take c.loop-lane.lane-index lanes) (get_or lanes c.loop-lane.lane-index 0) in
    let long = ap length joined ∙ length-append (items c.loop-lane.digest) c.to_le_bytes.result in
    let eight = ap length c.to_le_bytes.ensures in
    (omega arith, cc)
