use Rattle.std.proofs.Common.{◌≡◌, ℕ, List, Err, Result, rules}
use Rattle.interfaces.specs.declared.code.Code.{Code}
use Rattle.interfaces.specs.Checks.{first, refused_with}
use Rattle.block.specs.Layout.{block_flaw}
use Rattle.block.specs.Views.{block_bytes}
use Rattle.session.specs.Books.{Shelf, put_book_flaw}
use Rattle.report.specs.BookFiles.{book_file_flaw, book_in}
use Rattle.report.specs.OpeningReports.{files_flaw, first_place, shelf_with}
use Rattle.report.proofs.Opened.{later_refused}
use Rattle.report.proofs.Shown.{taken-is}
use Rattle.report.proofs.opening.take_files.Goals as goal

pub returns-in_err-shelf : goal.returns-in_err-shelf
returns-in_err-shelf c =
    let bs = c.args.block.now in
    let book = c.args.book.now in
    let taken = taken-is (block_flaw bs) bs (block_bytes c.in_ok-state.state) c.in_ok-state.ensures in
    let given : List ℕ × Shelf = (bs, shelf_with (book_in book)) in
    let later = first (book_file_flaw book) (put_book_flaw first_place (book_in book)) in
    let refused : ◌≡◌ {A = Result (List ℕ × Shelf) Code} (Err c.in_err-shelf.field-0.0) (refused_with (files_flaw bs book) given) = later_refused (block_flaw bs) later (shelf_with (book_in book)) given c.in_err-shelf.field-0.0 taken.0 c.in_err-shelf.ensures in
    search (rules, refused)
