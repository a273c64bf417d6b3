-- An entry put into a table of up to `most` entries. A test tells whether two entries stand under
-- one key.
use Rattle.std.specs.Prelude.{ℕ, Bool, cond, ◌||◌, List, [], ◌∷◌, ◌++◌, length, position, is_some, Some, None, Ok, Err, Option, Result, nat_lt, slice_set}
use Rattle.arrays.specs.declared.array_vec.Full.{Full}

-- The place of the first entry under the key of another.
abbrev pub its_place : {T : Type 0} → (T → T → Bool) → List T → T → Option ℕ
its_place same old entry = position (λ e. same e entry) old

-- The table with the entry in the place of another, or behind the last.
abbrev pub put_at : {T : Type 0} → Option ℕ → List T → T → List T
put_at None old entry = old ++ entry ∷ []
put_at (Some place) old entry = slice_set old place entry

module _ {T : Type 0} (same : T → T → Bool) (most : ℕ) (old : List T) (entry : T) where
  -- One more entry than the most is refused, unless it replaces one.
  abbrev pub has_room : Bool
  has_room = is_some (its_place same old entry) || nat_lt (length old) most

  -- What putting the entry answers, and the table after it.
  abbrev pub put_answer : Result (Unit {0}) Full
  put_answer = cond has_room (Ok tt) (Err (record {}))

  abbrev pub with_put : List T
  with_put = cond has_room (put_at (its_place same old entry) old entry) old
