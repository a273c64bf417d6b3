-- The layout of a book file: the identifier, the digest, the password's length, the password, and the
-- content up to the end. Numbers of several bytes are big-endian.
use Rattle.std.specs.Prelude.{ℕ, ◌+◌, List, length, drop, Option, nat_le, slice_index}
use Rattle.interfaces.specs.declared.code.Code.{Code}
use Rattle.interfaces.specs.declared.code.Code.TheVariants.{Size}
use Rattle.interfaces.specs.Checks.{first, unless}
use Rattle.interfaces.specs.Hashing.{digest_length}
use Rattle.block.specs.Layout.{big_endian, part}
use Rattle.session.specs.Books.{Book}

-- The length of the identifier, and where the parts behind it begin.
abbrev pub identifier_length : ℕ
identifier_length = 2

abbrev pub password_length_at : ℕ
password_length_at = 34

abbrev pub password_at : ℕ
password_at = 35

abbrev pub password_length_in : List ℕ → ℕ
password_length_in bs = slice_index bs password_length_at

-- The content begins behind the password.
abbrev pub content_at : List ℕ → ℕ
content_at bs = password_at + password_length_in bs

-- The checks of a book file, in their order: it has a password's length, then the password.
abbrev pub book_file_flaw : List ℕ → Option Code
book_file_flaw bs = first (unless (nat_le password_at (length bs)) Size) (unless (nat_le (content_at bs) (length bs)) Size)

-- The book that a file means.
abbrev pub book_in : List ℕ → Book
book_in bs = record {
  identifier = big_endian (part bs 0 identifier_length);
  digest = part bs identifier_length digest_length;
  password = part bs password_at (password_length_in bs);
  content = drop (content_at bs) bs;
}
