use Rattle.sha3.specs.Sha3.{first_lane}
use Rattle.sha3.proofs.sponge.lane_of.Goals as goal

pub returns : goal.returns
unfolding first_lane
returns c = c.from_le_bytes.ensures
