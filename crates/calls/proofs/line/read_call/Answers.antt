use Rattle.std.proofs.Common.{◌≡◌, rules}
use Rattle.interfaces.specs.Checks.{meant}
use Rattle.interfaces.specs.Hashing.{digest_length}
use Rattle.calls.specs.Reading.{read_call}
use Rattle.calls.specs.Views.{call_of}
use Rattle.calls.proofs.ReadsCalls.{reads}
use Rattle.calls.proofs.line.read_call.Goals as goal

pub returns-clause-reads : goal.returns-clause-reads
returns-clause-reads c =
    let value : meant call_of c.read_word.result ≡ read_call digest_length c.args.line.now = search rules in
    rw value (reads digest_length c.args.line.now)
