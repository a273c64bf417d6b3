use Rattle.std.proofs.Common.{codes, Err, ap, arith, rules}
use Rattle.policy.proofs.Words.{spelled, misspelled}
use Rattle.policy.proofs.read.read_assertion.Goals as goal

pub returns-in-time : goal.returns-in-time
returns-in-time c = rw (spelled c.args.word.now (codes "time") (omega arith)) c.read_time.ensures

pub returns-in-locality : goal.returns-in-locality
returns-in-locality c = rw (spelled c.args.word.now (codes "locality") (omega arith)) c.read_locality.ensures

pub returns-in-command : goal.returns-in-command
returns-in-command c = rw (spelled c.args.word.now (codes "command") (omega arith)) c.read_command.ensures

pub returns-in_ok-ok_or-in-presence : goal.returns-in_ok-ok_or-in-presence
returns-in_ok-ok_or-in-presence c = rw (spelled c.args.word.now (codes "presence") (omega arith)) (search rules)

pub returns-in_ok-ok_or-in-password : goal.returns-in_ok-ok_or-in-password
returns-in_ok-ok_or-in-password c = rw (spelled c.args.word.now (codes "password") (omega arith)) (search rules)

pub returns-in_default : goal.returns-in_default
returns-in_default c =
    let word = c.args.word.now in
    let pcr = misspelled word (codes "pcr") (λ s. grind arith) in
    let nv = misspelled word (codes "nv") (λ s. grind arith) in
    let time = misspelled word (codes "time") (λ s. grind arith) in
    let locality = misspelled word (codes "locality") (λ s. grind arith) in
    let command = misspelled word (codes "command") (λ s. grind arith) in
    let presence = misspelled word (codes "presence") (λ s. grind arith) in
    let password = misspelled word (codes "password") (λ s. grind arith) in
    rw (pcr, nv, time, locality, command, presence, password) (ap Err c.form-in_default.ensures)
