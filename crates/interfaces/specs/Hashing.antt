-- What a hash means, and what hashing answers and writes.
use Rattle.std.specs.Prelude.{◌≡◌, ℕ, ◌^◌, ◌<◌, Bool, cond, ◌&&◌, List, length, replicate, Ok, Err, Option, Result, ◌==◌, nat_le}
use Rattle.std.specs.List.{AllByRecursion}
use Rattle.interfaces.specs.declared.code.Code.{Code}
use Rattle.interfaces.specs.declared.code.Code.TheVariants.{Size}
use Rattle.interfaces.specs.Checks.{unless}

-- The length of a digest, in bytes: the one definition.
abbrev pub digest_length : ℕ
digest_length = 32

-- The longest string that a hash takes, in bytes.
abbrev pub hash_limit : ℕ
hash_limit = 65536

-- A hash's meaning: one function from byte strings to digests, the length of every digest, and
-- the 16-bit algorithm identifier.
pub record Hashing : Type 0 where
  pub digest : List ℕ → List ℕ
  pub size : ℕ
  pub identifier : ℕ

-- What every hash owes: its digests are byte strings of one length, which is that of a digest.
pub record Lawful (h : Hashing) : Type 0 where
  pub sized : (s : List ℕ) → length (h.digest s) ≡ h.size
  pub bytes : (s : List ℕ) → AllByRecursion (λ b. b < 256) (h.digest s)
  pub long : h.size ≡ digest_length
  pub short : h.identifier < 2 ^ 16

-- The zero digest.
abbrev pub zeros : Hashing → List ℕ
zeros h = replicate h.size 0

-- The check of a string that is to be hashed.
abbrev pub text_flaw : List ℕ → Option Code
text_flaw s = unless (nat_le (length s) hash_limit) Size

-- A request to hash s into a buffer of `room` bytes is sound: the string is within the limit and
-- the buffer has a digest's length.
abbrev pub request_fits : List ℕ → ℕ → Bool
request_fits s room = nat_le (length s) hash_limit && room == digest_length

-- What hashing s into a buffer of `room` bytes answers.
abbrev pub hash_answer : List ℕ → ℕ → Result (Unit {0}) Code
hash_answer s room = cond (request_fits s room) (Ok tt) (Err Size)

-- What the buffer holds afterwards: the digest, or zeros after a refusal.
abbrev pub hash_written : Hashing → List ℕ → ℕ → List ℕ
hash_written h s room = cond (request_fits s room) (h.digest s) (replicate room 0)
