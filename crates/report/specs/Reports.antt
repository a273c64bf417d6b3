-- What the programs print.
use Rattle.std.specs.Prelude.{ℕ, ◌/◌, ◌%◌, List, [], ◌∷◌, ◌++◌, Ok, Err, codes, decimal, Result}
use Rattle.interfaces.specs.declared.code.Code.{Code}
use Rattle.interfaces.specs.declared.fault.Fault.{Fault}
use Rattle.interfaces.specs.Hashing.{Hashing, digest_length}
use Rattle.interfaces.specs.Numbers.{code_number, layer_word}
use Rattle.text.specs.Cut.{tab, line_feed}
use Rattle.text.specs.Pairs.{hex_digit, pairs}
use Rattle.tree.specs.declared.summary.Summary.{Summary}
use Rattle.tree.specs.Answers.{digested, answer_of, written_of}

-- A line: a word, a tab and a value.
abbrev pub labelled : List ℕ → List ℕ → List ℕ
labelled word value = word ++ tab ∷ value ++ line_feed ∷ []

-- A code as three hexadecimal digits.
abbrev pub shown_code : Code → List ℕ
shown_code c = hex_digit (code_number c / 256 % 16) ∷ hex_digit (code_number c / 16 % 16) ∷ hex_digit (code_number c % 16) ∷ []

-- A fault: its line, layer and code, parted by tabs.
abbrev pub shown_fault : Fault → List ℕ
shown_fault f = labelled (codes "fault") (decimal f.line ++ tab ∷ layer_word f.layer ++ tab ∷ shown_code f.code)

-- A digested text: its lines, its branches and its digest, a line each.
abbrev pub shown_summary : Summary → List ℕ → List ℕ
shown_summary s digest = labelled (codes "lines") (decimal s.lines) ++ labelled (codes "branches") (decimal s.branches) ++ labelled (codes "digest") (pairs digest)

abbrev pub shown_answer : Result Summary Fault → List ℕ → List ℕ
shown_answer (Ok s) digest = shown_summary s digest
shown_answer (Err f) digest = shown_fault f

-- The report on a policy text under a hash.
abbrev pub digest_report : Hashing → List ℕ → List ℕ
digest_report h text = shown_answer (answer_of text (digested text digest_length)) (written_of h digest_length (digested text digest_length))
