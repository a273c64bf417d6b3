-- Books on a shelf.
use Rattle.std.specs.Prelude.{ℕ, ◌&&◌, List, replicate, length, Some, None, Option, ◌==◌, nat_le, nat_lt, slice_index_or, slice_set}
use Rattle.interfaces.specs.declared.code.Code.{Code}
use Rattle.interfaces.specs.declared.code.Code.TheVariants.{Handle, Size}
use Rattle.interfaces.specs.Checks.{first, unless}
use Rattle.interfaces.specs.Hashing.{digest_length}

-- How many places a shelf has, numbered from 0.
abbrev pub shelf_places : ℕ
shelf_places = 16

-- The most wrong tries that are counted; with so many, a book with a needed password stays shut.
abbrev pub most_tries : ℕ
most_tries = 5

-- The longest password and the longest content, in bytes.
abbrev pub password_limit : ℕ
password_limit = 32

abbrev pub content_limit : ℕ
content_limit = 128

-- A book: the identifier of the hash that its policy was digested by, the policy's digest, its
-- password, and its content, which is what an opening gives.
pub record Book : Type 0 where
  pub identifier : ℕ
  pub digest : List ℕ
  pub password : List ℕ
  pub content : List ℕ

-- A shelf: the book at each place, if there is one, and the count of wrong tries.
pub record Shelf : Type 0 where
  pub books : List (Option Book)
  pub tries : ℕ

abbrev pub empty_shelf : Shelf
empty_shelf = record { books = replicate shelf_places None; tries = 0 }

-- The book at a place; there is none at a place that the shelf has not.
abbrev pub book_at : Shelf → ℕ → Option Book
book_at shelf place = slice_index_or shelf.books place None

-- Putting a book: the place is checked first, then the lengths.
abbrev pub put_book_flaw : ℕ → Book → Option Code
put_book_flaw place b = first (unless (nat_lt place shelf_places) Handle) (unless (length b.digest == digest_length && (nat_le (length b.password) password_limit && nat_le (length b.content) content_limit)) Size)

abbrev pub with_book : Shelf → ℕ → Book → Shelf
with_book shelf place b = record { books = slice_set shelf.books place (Some b); tries = shelf.tries }

abbrev pub with_tries : Shelf → ℕ → Shelf
with_tries shelf n = record { books = shelf.books; tries = n }
