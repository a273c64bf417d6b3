use Rattle.std.proofs.Common.{sym, subst}
use Rattle.interfaces.specs.Hashing.{digest_length}
use Rattle.policy.specs.Reading.{Reads}
use Rattle.policy.proofs.ReadsLines.{reads}
use Rattle.policy.proofs.line.read_line.Goals as goal

pub returns : goal.returns
returns c =
    let value = c.read_fields.ensures in
    record { value = value; reads = subst (Reads digest_length c.args.line.now) (sym value) (reads digest_length c.args.line.now) }
