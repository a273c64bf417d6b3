use Rattle.sha256.specs.Sha256.{first_word}
use Rattle.sha256.proofs.schedule.word_of.Goals as goal

pub returns : goal.returns
unfolding first_word
returns c = c.from_be_bytes.ensures
