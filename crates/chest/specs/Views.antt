-- What books and shelves mean.
use Rattle.std.specs.Prelude.{◌&&◌, map, length, Option, ◌==◌, nat_le}
use Rattle.std.specs.Option.{option_map}
use Rattle.arrays.specs.Items.{items}
use Rattle.interfaces.specs.declared.code.Code.{Code}
use Rattle.interfaces.specs.declared.code.Code.TheVariants.{Size}
use Rattle.interfaces.specs.Checks.{unless}
use Rattle.interfaces.specs.Hashing.{digest_length}
use Rattle.session.specs.Books.{Book, Shelf, content_limit, password_limit}
use Rattle.session.specs.Openings.{Request}
use Rattle.chest.specs.declared.book.Book as code
use Rattle.chest.specs.declared.book.GivenBook.{GivenBook}
use Rattle.chest.specs.declared.judge.Request as code-request
use Rattle.chest.specs.declared.shelf.Shelf as code-shelf

abbrev pub book_of : code.Book → Book
book_of b = record { identifier = b.identifier; digest = b.digest.bytes; password = items b.password; content = items b.content }

-- A book as it is given.
abbrev pub given_book : GivenBook → Book
given_book g = record { identifier = g.identifier; digest = g.digest.now; password = g.password.now; content = g.content.now }

abbrev pub shelf_of : code-shelf.Shelf → Shelf
shelf_of s = record { books = map (option_map book_of) s.books; tries = s.tries }

-- The lengths of a book that is put.
abbrev pub sizes_flaw : Book → Option Code
sizes_flaw b = unless (length b.digest == digest_length && (nat_le (length b.password) password_limit && nat_le (length b.content) content_limit)) Size

abbrev pub request_of : code-request.Request → Request
request_of r = record { place = r.place; given = r.given.now; room = r.room }
