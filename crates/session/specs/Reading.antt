-- What reading a session's digest comes to.
use Rattle.std.specs.Prelude.{ℕ, List, Result, ◌==◌}
use Rattle.interfaces.specs.declared.code.Code.{Code}
use Rattle.interfaces.specs.declared.code.Code.TheVariants.{Size}
use Rattle.interfaces.specs.Checks.{refused_with, unless}
use Rattle.interfaces.specs.Hashing.{digest_length}
use Rattle.session.specs.Steps.{Progress}

abbrev pub read_digest : Progress → ℕ → Result (List ℕ) Code
read_digest p room = refused_with (unless (room == digest_length) Size) p.digest
