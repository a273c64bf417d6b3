-- The strings that are hashed for an assertion and for a joining of trees.
use Rattle.std.specs.Prelude.{ℕ, cond, ◌&&◌, List, [], ◌∷◌, ◌++◌, length, Ok, Err, Result, nat_le}
use Rattle.std.specs.List.{flat_map}
use Rattle.interfaces.specs.declared.code.Code.{Code}
use Rattle.interfaces.specs.declared.code.Code.TheVariants.{Size}
use Rattle.interfaces.specs.Hashing.{Hashing, zeros}
use Rattle.policy.specs.Assertions.{Comparison, Assertion, pcr, nv, time, locality, command, presence, password}
use Rattle.policy.specs.Lines.{be2, be4, fewest_trees, most_trees}

-- The code of the TPM 2.0 command that makes the assertion.
abbrev pub command_code : Assertion → ℕ
command_code (pcr selection digest) = 0x0000017f
command_code (nv name c) = 0x00000149
command_code (time c) = 0x0000016d
command_code (locality set) = 0x0000016f
command_code (command code) = 0x0000016c
command_code presence = 0x00000187
command_code password = 0x0000016b

-- The code of PolicyOR.
abbrev pub or_code : ℕ
or_code = 0x00000171

-- The PCR selection of one bank: SHA-256's, with 3 selection bytes.
abbrev pub bank_selection : List ℕ → List ℕ
bank_selection selection = be4 1 ++ be2 0x000b ++ 3 ∷ selection

-- What a comparison's digest is made from.
abbrev pub comparison_string : Comparison → List ℕ
comparison_string c = c.operand ++ be2 c.offset ++ be2 c.operation

-- The strings hashed inside an assertion, before its own.
abbrev pub inner : Assertion → List (List ℕ)
inner (pcr selection digest) = []
inner (nv name c) = comparison_string c ∷ []
inner (time c) = comparison_string c ∷ []
inner (locality set) = []
inner (command code) = []
inner presence = []
inner password = []

-- What follows the command code in the string hashed.
abbrev pub body : Hashing → Assertion → List ℕ
body h (pcr selection digest) = bank_selection selection ++ digest
body h (nv name c) = h.digest (comparison_string c) ++ name
body h (time c) = h.digest (comparison_string c)
body h (locality set) = set ∷ []
body h (command code) = be4 code
body h presence = []
body h password = []

-- The string hashed to extend a digest by an assertion.
abbrev pub step_string : Hashing → List ℕ → Assertion → List ℕ
step_string h old a = old ++ be4 (command_code a) ++ body h a

-- The digest extended by an assertion.
abbrev pub extended : Hashing → List ℕ → Assertion → List ℕ
extended h old a = h.digest (step_string h old a)

-- The string hashed to join digests, lowest first: the zero digest stands in front.
abbrev pub join_string : Hashing → List (List ℕ) → List ℕ
join_string h ds = zeros h ++ be4 or_code ++ flat_map (λ d. d) ds

abbrev pub joined_digest : Hashing → List (List ℕ) → List ℕ
joined_digest h ds = h.digest (join_string h ds)

-- What joining answers: the digest of two to eight digests, or a refusal.
abbrev pub join_answer : Hashing → List (List ℕ) → Result (List ℕ) Code
join_answer h ds = cond (nat_le fewest_trees (length ds) && nat_le (length ds) most_trees) (Ok (joined_digest h ds)) (Err Size)
