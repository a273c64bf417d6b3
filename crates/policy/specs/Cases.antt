-- Worked cases, of the same definitions.
use Rattle.std.specs.Prelude.{◌≡◌, ℕ, List, length}
use Rattle.std.specs.List.{AllByRecursion}
use Rattle.interfaces.specs.Hashing.{Hashing, Lawful, zeros}
use Rattle.policy.specs.Assertions.{password}
use Rattle.policy.specs.Strings.{step_string, join_string}

-- From the zero digest `password` hashes 36 bytes.
abbrev pub PasswordHashes36 : Type 0
PasswordHashes36 = (h : Hashing) → Lawful h → length (step_string h (zeros h) password) ≡ 36

-- `any` of eight digests hashes 292 bytes.
abbrev pub AnyOfEightHashes292 : Type 0
AnyOfEightHashes292 = (h : Hashing) → Lawful h → (ds : List (List ℕ)) → length ds ≡ 8 → AllByRecursion (λ d. length d ≡ h.size) ds → length (join_string h ds) ≡ 292
