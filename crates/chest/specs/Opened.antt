-- An opening of a book on a shelf with a session.
use Rattle.std.specs.Prelude.{◌≡◌, ℕ, List, Ok, Result}
use Rattle.interfaces.specs.declared.code.Code.{Code}
use Rattle.interfaces.specs.Hashing.{Hashing}
use Rattle.interfaces.specs.States.{Snapshot}
use Rattle.session.specs.declared.session.Session.{Session}
use Rattle.session.specs.Books.{Book}
use Rattle.session.specs.History.{OnlyByAKeptBranch}
use Rattle.session.specs.Openings.{Request, opening}
use Rattle.session.specs.Views.{hash_in, progress_in}
use Rattle.chest.specs.declared.shelf.Shelf as code-shelf
use Rattle.chest.specs.Views.{shelf_of}

-- What is asked: the place, the password given, and the bytes of the buffer.
abbrev pub asked : ℕ → List ℕ → ℕ → Request
asked place given room = record { place = place; given = given; room = room }

-- What the opening comes to; `meaning` tells what a hash means.
abbrev pub opening_with : {H K : Type 0} → (H → Hashing) → Snapshot → Session H K → code-shelf.Shelf → Request → Result Book Code
opening_with meaning s session shelf q = opening (meaning (hash_in session)) s (shelf_of shelf) (progress_in session) q

-- Whatever book the opening opens, it opens only by a kept branch.
abbrev pub OpensByAKeptBranch : {H K : Type 0} → (H → Hashing) → Snapshot → Session H K → code-shelf.Shelf → Request → Type 0
OpensByAKeptBranch meaning s session shelf q = (b : Book) → opening_with meaning s session shelf q ≡ Ok b → OnlyByAKeptBranch (meaning (hash_in session)) s (shelf_of shelf) q (progress_in session) b
