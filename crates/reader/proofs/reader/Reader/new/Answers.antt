use Rattle.std.proofs.Common.{◌∙◌}
use Rattle.reader.proofs.reader.Reader.new.Goals as goal

pub returns : goal.returns
returns c =
    c.new-2.ensures.means ∙ c.new.ensures
