-- How a text is cut into lines, and a line into fields.
use Rattle.std.specs.Prelude.{ℕ, cond, List, [], ◌∷◌, Some, None, Option, ◌==◌}
use Rattle.std.specs.Option.{unwrap_or}

abbrev pub line_feed : ℕ
line_feed = 10

abbrev pub tab : ℕ
tab = 9

-- c put in front of the first piece.
abbrev pub attached : ℕ → List (List ℕ) → List (List ℕ)
attached c [] = (c ∷ []) ∷ []
attached c (p ∷ ps) = (c ∷ p) ∷ ps

-- The lines of a text: each is ended by a line feed, and an unended rest is a line too. An empty
-- rest is none.
abbrev pub lines : List ℕ → List (List ℕ)
lines [] = []
lines (c ∷ cs) = cond (c == line_feed) ([] ∷ lines cs) (attached c (lines cs))

-- The fields of a line, parted by single tabs. The empty line is one empty field.
abbrev pub fields : List ℕ → List (List ℕ)
fields [] = [] ∷ []
fields (c ∷ cs) = cond (c == tab) ([] ∷ fields cs) (attached c (fields cs))

-- The fields of what follows a tab; none where no tab follows.
abbrev pub further : Option (List ℕ) → List (List ℕ)
further None = []
further (Some s) = fields s

-- What stands before the first b, or all of it where there is none.
abbrev pub before : ℕ → List ℕ → List ℕ
before b [] = []
before b (c ∷ cs) = cond (c == b) [] (c ∷ before b cs)

-- What follows the first b.
abbrev pub after : ℕ → List ℕ → Option (List ℕ)
after b [] = None
after b (c ∷ cs) = cond (c == b) (Some cs) (after b cs)

-- The first line of a text and what follows its line feed; none where the text is empty.
abbrev pub first_line : List ℕ → Option (List ℕ × List ℕ)
first_line [] = None
first_line (c ∷ cs) = Some (before line_feed (c ∷ cs), unwrap_or (after line_feed (c ∷ cs)) [])
