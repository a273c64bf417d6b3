-- What hashing, and reading a state, leave in a buffer of the length that they ask for.
use Rattle.std.proofs.Common.{◌≡◌, ℕ, ◌-◌, ◌<◌, ◌≤◌, List, [], length, get_or, take, replicate, Some, None, Ok, Option, sym, ap, ◌∙◌, arith}
use Rattle.std.proofs.ByRecursion.{All-get_or}
use Rattle.std.proofs.lemmas.List.{take_at}
use Rattle.std.proofs.lemmas.Bool.{and_from, cond-true, eq-eqb, le-leb}
use Rattle.interfaces.specs.Checks.{counted, left_in}
use Rattle.interfaces.specs.Hashing.{Hashing, digest_length, hash_limit, hash_written}
use Rattle.interfaces.specs.States.{Snapshot, Sound, pcr_count, pcr_length, name_length, value_limit, held_value, read_pcr, read_stored}
use Rattle.interfaces.proofs.Answered.{left_whole, pcr_read, stored_read}

-- hashing within the limits
pub hash_left : (h : Hashing) (text : List ℕ) (room : ℕ) → length text ≤ hash_limit → room ≡ digest_length → hash_written h text room ≡ h.digest text
hash_left h text room a b = cond-true _ _ _ (and_from _ _ (le-leb _ hash_limit a) (eq-eqb _ digest_length b))

module _ (s : Snapshot) (law : Sound s) where
  pub pcr-long : (index : ℕ) → index < pcr_count → length (get_or s.pcrs index []) ≡ pcr_length
  pcr-long index h = All-get_or (λ p. length p ≡ pcr_length) s.pcrs index [] (omega (arith, law.pcrs_all)) law.pcrs_long

  pub pcr_left : (index room : ℕ) → index < pcr_count → room ≡ pcr_length → left_in room (read_pcr s index room) ≡ get_or s.pcrs index []
  pcr_left index room h r = ap (left_in room) (pcr_read s index room r h) ∙ left_whole (get_or s.pcrs index []) room (pcr-long index h ∙ sym r)

-- the value stored under a Name that the state holds
pub stored_left : (s : Snapshot) (name out : List ℕ) (n room : ℕ) → length name ≡ name_length → room ≡ value_limit → Ok n ≡ counted (read_stored s name room) → out ≡ left_in room (read_stored s name room) → s.stored name ≡ Some (take n out)
stored_left s name out n room long r told left =
    let read = stored_read s name room long r in
    go (s.stored name) (told ∙ ap counted read) (left ∙ ap (left_in room) read)
  where
    go : (o : Option (List ℕ)) → Ok n ≡ counted (held_value o) → out ≡ left_in room (held_value o) → o ≡ Some (take n out)
    go None f e = absurd (let z : ◌≡◌ {A = ℕ} 0 1 = cc in omega arith)
    go (Some v) f e = let size : length v ≡ n = cc in ap Some (sym (ap (take n) e ∙ take_at v (replicate (room - length v) 0) n size))
