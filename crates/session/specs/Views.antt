-- What a session's value means.
use Rattle.session.specs.declared.progress.Progress as code
use Rattle.session.specs.declared.session.Session.{Session}
use Rattle.session.specs.Steps.{Progress}

abbrev pub progress_of : code.Progress → Progress
progress_of p = record { digest = p.digest.bytes; count = p.count; command = p.command; localities = p.localities; presence = p.presence; password = p.password }

-- The hash of a session, and how far it has come.
abbrev pub hash_in : {H K : Type 0} → Session H K → H
hash_in s = s.hash

abbrev pub progress_in : {H K : Type 0} → Session H K → Progress
progress_in s = progress_of s.progress
