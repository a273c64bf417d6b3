-- What is printed of a run over a state block and of the opening of a book behind it.
use Rattle.std.specs.Prelude.{ℕ, List, ◌++◌, Some, None, Ok, Err, codes, decimal, true, Option, Result}
use Rattle.interfaces.specs.declared.code.Code.{Code}
use Rattle.interfaces.specs.Checks.{first}
use Rattle.interfaces.specs.Faults.{call_refusal, fault_at}
use Rattle.interfaces.specs.Hashing.{Hashing}
use Rattle.interfaces.specs.States.{Snapshot}
use Rattle.text.specs.Pairs.{pairs}
use Rattle.block.specs.Layout.{block_flaw, block_snapshot}
use Rattle.session.specs.Books.{Book, Shelf, content_limit, empty_shelf, put_book_flaw, with_book}
use Rattle.session.specs.Openings.{Request, content_of, opening, session_after, shelf_after}
use Rattle.session.specs.Runs.{run_after, run_answer}
use Rattle.session.specs.Steps.{Progress, fresh}
use Rattle.chest.specs.Opened.{asked}
use Rattle.report.specs.BookFiles.{book_file_flaw, book_in}
use Rattle.report.specs.Reports.{labelled, shown_code, shown_fault}
use Rattle.report.specs.RunReports.{shown_lines, shown_progress}

-- The place that the book is put at.
abbrev pub first_place : ℕ
first_place = 0

-- The content of an opened book, or the code of the refusal.
abbrev pub shown_content : Result (List ℕ) Code → List ℕ
shown_content (Ok bs) = labelled (codes "content") (pairs bs)
shown_content (Err c) = labelled (codes "refused") (shown_code c)

abbrev pub shown_tries : Shelf → List ℕ
shown_tries shelf = labelled (codes "tries") (decimal shelf.tries)

-- What an opening came to: the content, the tries and the session after it.
abbrev pub shown_outcome : Hashing → Shelf → Progress → Result Book Code → List ℕ
shown_outcome h shelf p outcome =
    shown_content (content_of outcome)
    ++ shown_tries (shelf_after shelf p outcome)
    ++ shown_progress (session_after h p outcome)

abbrev pub shown_opening : Hashing → Snapshot → Shelf → Progress → Request → List ℕ
shown_opening h s shelf p q = shown_outcome h shelf p (opening h s shelf p q)

-- A shelf with this one book.
abbrev pub shelf_with : Book → Shelf
shelf_with b = with_book empty_shelf first_place b

-- A run of a text on a fresh policy session, and then an opening of the book with that session.
abbrev pub shown_run_and_opening : Hashing → Snapshot → List ℕ → Book → List ℕ → List ℕ
shown_run_and_opening h s text b given =
    shown_lines (run_answer true h s text (fresh h))
    ++ shown_opening h s (shelf_with b) (run_after true h s text (fresh h)) (asked first_place given content_limit)

-- The checks of what is given, in their order: the state block, the book file, the book that it means.
abbrev pub files_flaw : List ℕ → List ℕ → Option Code
files_flaw bs book = first (block_flaw bs) (first (book_file_flaw book) (put_book_flaw first_place (book_in book)))

abbrev pub shown_unless_refused : Option Code → List ℕ → List ℕ
shown_unless_refused None shown = shown
shown_unless_refused (Some c) shown = shown_fault (fault_at 0 (call_refusal c))

-- The report on a run over a state block and the opening of a book file's book with a given password: or
-- the refusal of one of the files.
abbrev pub opening_report : Hashing → List ℕ → List ℕ → List ℕ → List ℕ → List ℕ
opening_report h bs text book given = shown_unless_refused (files_flaw bs book) (shown_run_and_opening h (block_snapshot bs) text (book_in book) given)
