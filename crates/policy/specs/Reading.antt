-- How a line is read: a definition that computes. What it means stands in `Reads`.
use Rattle.std.specs.Prelude.{◌≡◌, ℕ, ◌+◌, ◌*◌, cond, ◌⊎◌, List, [], ◌∷◌, Some, None, Ok, Err, codes, Option, Result, slice_index}
use Rattle.std.specs.Option.{option_map}
use Rattle.std.specs.Str.{bytes_eq}
use Rattle.interfaces.specs.declared.fault.Refusal.{Refusal}
use Rattle.interfaces.specs.Faults.{form_refusal}
use Rattle.text.specs.Cut.{fields}
use Rattle.text.specs.Numbers.{number}
use Rattle.text.specs.Pairs.{unpaired, of_length}
use Rattle.policy.specs.Assertions.{Comparison, Assertion, pcr, nv, time, locality, command, presence, password}
use Rattle.policy.specs.Lines.{Line, start, any, extend, Is, line_flaw}

-- What comes of a value, if there is one.
abbrev pub thence : {A B : Type 0} → Option A → (A → Option B) → Option B
thence None f = None
thence (Some x) f = f x

-- Exactly so many fields.
abbrev pub none : List (List ℕ) → Option (Unit {0})
none [] = Some tt
none (a ∷ fs) = None

abbrev pub one : List (List ℕ) → Option (List ℕ)
one [] = None
one (a ∷ fs) = thence (none fs) (λ _. Some a)

abbrev pub two : List (List ℕ) → Option (List ℕ × List ℕ)
two [] = None
two (a ∷ fs) = thence (one fs) (λ b. Some (a, b))

abbrev pub three : List (List ℕ) → Option (List ℕ × List ℕ × List ℕ)
three [] = None
three (a ∷ fs) = thence (two fs) (λ p. Some (a, p.0, p.1))

abbrev pub four : List (List ℕ) → Option (List ℕ × List ℕ × List ℕ × List ℕ)
four [] = None
four (a ∷ fs) = thence (three fs) (λ p. Some (a, p.0, p.1, p.2))

-- The number of two bytes, and of four, most significant byte first.
abbrev pub of2 : List ℕ → ℕ
of2 bs = slice_index bs 0 * 256 + slice_index bs 1

abbrev pub of4 : List ℕ → ℕ
of4 bs = slice_index bs 0 * 16777216 + slice_index bs 1 * 65536 + slice_index bs 2 * 256 + slice_index bs 3

abbrev pub parse_comparison : List ℕ → List ℕ → List ℕ → Option Comparison
parse_comparison operand offset operation = thence (unpaired operand) (λ b. thence (number offset) (λ f. thence (number operation) (λ o. Some (record { operand = b; offset = f; operation = o }))))

abbrev pub parse_pcr : List (List ℕ) → Option Assertion
parse_pcr fs = thence (two fs) (λ p. thence (of_length 3 (unpaired p.0)) (λ s. thence (unpaired p.1) (λ d. Some (pcr s d))))

abbrev pub parse_nv : List (List ℕ) → Option Assertion
parse_nv fs = thence (four fs) (λ p. thence (unpaired p.0) (λ n. thence (parse_comparison p.1 p.2 p.3) (λ c. Some (nv n c))))

abbrev pub parse_time : List (List ℕ) → Option Assertion
parse_time fs = thence (three fs) (λ p. thence (parse_comparison p.0 p.1 p.2) (λ c. Some (time c)))

abbrev pub parse_locality : List (List ℕ) → Option Assertion
parse_locality fs = thence (one fs) (λ f. thence (of_length 1 (unpaired f)) (λ s. Some (locality (slice_index s 0))))

abbrev pub parse_command : List (List ℕ) → Option Assertion
parse_command fs = thence (one fs) (λ f. thence (of_length 4 (unpaired f)) (λ c. Some (command (of4 c))))

abbrev pub parse_bare : Assertion → List (List ℕ) → Option Assertion
parse_bare a fs = thence (none fs) (λ _. Some a)

-- An assertion by its word and fields.
abbrev pub parse_assertion : List ℕ → List (List ℕ) → Option Assertion
parse_assertion w fs =
    cond (bytes_eq w (codes "pcr")) (parse_pcr fs)
    (cond (bytes_eq w (codes "nv")) (parse_nv fs)
    (cond (bytes_eq w (codes "time")) (parse_time fs)
    (cond (bytes_eq w (codes "locality")) (parse_locality fs)
    (cond (bytes_eq w (codes "command")) (parse_command fs)
    (cond (bytes_eq w (codes "presence")) (parse_bare presence fs)
    (cond (bytes_eq w (codes "password")) (parse_bare password fs) None))))))

abbrev pub parse_start : List (List ℕ) → Option Line
parse_start fs = thence (none fs) (λ _. Some start)

abbrev pub parse_any : List (List ℕ) → Option Line
parse_any fs = thence (one fs) (λ f. thence (number f) (λ n. Some (any n)))

-- A policy text's line by its word and fields.
abbrev pub parse_word : List ℕ → List (List ℕ) → Option Line
parse_word w fs = cond (bytes_eq w (codes "start")) (parse_start fs) (cond (bytes_eq w (codes "any")) (parse_any fs) (option_map extend (parse_assertion w fs)))

abbrev pub parse_fields : List (List ℕ) → Option Line
parse_fields [] = None
parse_fields (w ∷ fs) = parse_word w fs

-- The line of a policy text that s has the form of; none where it has no line's form.
abbrev pub parse : List ℕ → Option Line
parse s = parse_fields (fields s)

-- What was read, judged: no form, or the first flaw of what has one.
abbrev pub refused_by : {A : Type 0} → Option Refusal → A → Result A Refusal
refused_by None a = Ok a
refused_by (Some e) a = Err e

abbrev pub judged : {A : Type 0} → (A → Option Refusal) → Option A → Result A Refusal
judged f None = Err form_refusal
judged f (Some a) = refused_by (f a) a

-- A line of a policy text as it is read: form first, then its own checks.
abbrev pub read_line : ℕ → List ℕ → Result Line Refusal
read_line size s = judged (line_flaw size) (parse s)

-- What reading a line means, in terms of how lines are written. A line read is so written, and its
-- checks pass; a line that is so written is refused by its own first check; any other text is no
-- line at all.
abbrev pub Reads : ℕ → List ℕ → Result Line Refusal → Type 0
Reads size s (Ok l) = Is s l × (line_flaw size l ≡ None)
Reads size s (Err e) = ((l : Line) × Is s l × (line_flaw size l ≡ Some e)) ⊎ ((e ≡ form_refusal) × ((l : Line) → Is s l → ⊥))
