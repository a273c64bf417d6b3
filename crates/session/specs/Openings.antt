-- Opening a book with a policy session.
use Rattle.std.specs.Prelude.{ℕ, suc, ◌^◌, Bool, true, false, cond, not, ◌&&◌, ◌||◌, List, length, Some, None, Ok, Err, Option, Result, ◌==◌, nat_le, nat_lt, bit_and}
use Rattle.std.specs.Str.{bytes_eq}
use Rattle.interfaces.specs.declared.code.Code.{Code}
use Rattle.interfaces.specs.declared.code.Code.TheVariants.{Handle, AuthFail, Pp, Size, PolicyFail, PolicyCc, PcrChanged, Locality, Lockout}
use Rattle.interfaces.specs.Checks.{first, refused_with, unless}
use Rattle.interfaces.specs.Hashing.{Hashing}
use Rattle.interfaces.specs.States.{Snapshot}
use Rattle.session.specs.Books.{Book, Shelf, book_at, most_tries, with_tries}
use Rattle.session.specs.Steps.{Progress, fresh, same_record}

-- The code of the one command that opens a book, TPM2_Unseal.
abbrev pub unseal : ℕ
unseal = 0x0000015e

-- A set of localities, a byte with a bit for each, has this one.
abbrev pub has_locality : ℕ → ℕ → Bool
has_locality set locality = not ((bit_and set (2 ^ locality)) == 0)

abbrev pub allows_locality : Option ℕ → ℕ → Bool
allows_locality None locality = true
allows_locality (Some set) locality = has_locality set locality

-- Passwords are equal when their lengths and their bytes are.
abbrev pub same_password : List ℕ → List ℕ → Bool
same_password = bytes_eq

-- Tries are left, so that a password is looked at.
abbrev pub tries_left : Shelf → Bool
tries_left shelf = nat_lt shelf.tries most_tries

-- What an opening is asked: the place of the book, the password given, and the bytes of the buffer.
pub record Request : Type 0 where
  pub place : ℕ
  pub given : List ℕ
  pub room : ℕ

-- The checks of an opening, in their order; an absent record passes.
abbrev pub book_flaw : Hashing → Snapshot → Shelf → Progress → Request → Book → Option Code
book_flaw h s shelf p q b =
    first (unless (same_record p.count s.count) PcrChanged)
    (first (unless (b.identifier == h.identifier && bytes_eq b.digest p.digest) PolicyFail)
    (first (unless (same_record p.command unseal) PolicyCc)
    (first (unless (allows_locality p.localities s.locality) Locality)
    (first (unless (not p.presence || s.presence) Pp)
    (first (unless (not p.password || tries_left shelf) Lockout)
    (first (unless (not p.password || same_password q.given b.password) AuthFail)
    (unless (nat_le (length b.content) q.room) Size)))))))

abbrev pub book_answer : Hashing → Snapshot → Shelf → Progress → Request → Option Book → Result Book Code
book_answer h s shelf p q None = Err Handle
book_answer h s shelf p q (Some b) = refused_with (book_flaw h s shelf p q b) b

-- The book that an opening opens, or the first refusal.
abbrev pub opening : Hashing → Snapshot → Shelf → Progress → Request → Result Book Code
opening h s shelf p q = book_answer h s shelf p q (book_at shelf q.place)

-- What an opening that came to this gives: the book's content.
abbrev pub content_of : Result Book Code → Result (List ℕ) Code
content_of (Ok b) = Ok b.content
content_of (Err c) = Err c

-- The session after it: an accepted opening makes it fresh again, a refused one leaves it.
abbrev pub session_after : Hashing → Progress → Result Book Code → Progress
session_after h p (Ok b) = fresh h
session_after h p (Err c) = p

-- The shelf after it: an accepted opening clears the tries if a password was needed; a wrong
-- password counts as a try; nothing else changes.
abbrev pub is_wrong_password : Code → Bool
is_wrong_password AuthFail = true
is_wrong_password c = false

abbrev pub shelf_after : Shelf → Progress → Result Book Code → Shelf
shelf_after shelf p (Ok b) = cond p.password (with_tries shelf 0) shelf
shelf_after shelf p (Err c) = cond (is_wrong_password c) (with_tries shelf (suc shelf.tries)) shelf
