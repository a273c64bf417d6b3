-- Laws of the places of entries: what they are in the table of the entries' keys and values.
use Rattle.std.proofs.Common.{arith, inl, inr, ◌⊎◌, ◌≤◌, ◌≡◌, ℕ, suc, ◌+◌, ◌<◌, Bool, true, false, cond, not, ◌||◌, ltb, List, [], ◌∷◌, map, length, get_or, is_some, Some, None, Ok, Err, Option, sym, refl, ap, ◌∙◌}
use Rattle.std.specs.List.{find, position, position_or_len}
use Rattle.std.specs.Option.{option_map}
use Rattle.std.proofs.lemmas.List.{get_or-map, length-map}
use Rattle.std.proofs.lemmas.Bool.{cases_lt, cond-true, cond-false, le-ltb, lt-ltb, or_left, or_right, or_from}
use Rattle.interfaces.specs.declared.code.Code.TheVariants.{Memory}
use Rattle.interfaces.specs.Checks.{refused_with, settled, unless}
use Rattle.tables.specs.Tables.{value_under, place_under, put_under, full_flaw}
use Rattle.tables.proofs.Laws.{first-within, place_first, place_none, place_some}
use Rattle.tables.specs.Puts.{its_place, put_at, has_room, with_put}

position-more : {X : Type 0} (p : X → Bool) (x : X) (xs : List X) → position p (x ∷ xs) ≡ cond (p x) (Some 0) (option_map suc (position p xs))
position-more {X = X} p x xs = go (p x) (cases_lt (position_or_len p xs) (length xs))
  where
    go : (b : Bool) → (position_or_len p xs < length xs) ⊎ (length xs ≤ position_or_len p xs) → cond (ltb (cond (not b) (1 + position_or_len p xs) 0) (suc (length xs))) (Some (cond (not b) (1 + position_or_len p xs) 0)) None ≡ cond b (Some 0) (option_map suc (position p xs))
    go true c = cond-true _ _ _ (lt-ltb 0 (suc (length xs)) (omega arith))
    go false (inl h) =
        let one : 1 + position_or_len p xs ≡ suc (position_or_len p xs) = omega arith in
        cond-true _ _ _ (lt-ltb (1 + position_or_len p xs) (suc (length xs)) (omega arith)) ∙ ap Some one ∙ ap (option_map suc) (sym (cond-true _ _ _ (lt-ltb _ _ h)))
    go false (inr h) = cond-false _ _ _ (le-ltb (1 + position_or_len p xs) (suc (length xs)) (omega arith)) ∙ ap (option_map suc) (sym (cond-false _ _ _ (le-ltb _ _ h)))

pub place_held : {K V : Type 0} (same : K → K → Bool) (es : List (K × V)) (key : K) → is_some (place_under same es key) ≡ is_some (value_under same es key)
place_held same [] key = refl
place_held same (e ∷ es) key = go (same e.0 key) (place_under same es key) (place_held same es key)
  where
    go : (b : Bool) (o : Option ℕ) → is_some o ≡ is_some (value_under same es key) → is_some (cond b (Some 0) (option_map suc o)) ≡ is_some (cond b (Some e.1) (value_under same es key))
    go true o h = refl
    go false None h = h
    go false (Some p) h = h

-- when a table is full
module _ {K V : Type 0} (same : K → K → Bool) (most : ℕ) (es : List (K × V)) (key : K) where
  pub full : place_under same es key ≡ None → most ≤ length es → full_flaw same most es key ≡ Some Memory
  full none h = ap (λ b. cond b None (Some Memory)) (or_from _ _ (ap is_some (place_none same es key none)) (le-ltb (length es) most h))

  pub room_left : length es < most → full_flaw same most es key ≡ None
  room_left h = ap (λ b. cond b None (Some Memory)) (or_right (is_some (value_under same es key)) _ (lt-ltb (length es) most h))

  pub replaces : (p : ℕ) (d : K × V) → place_under same es key ≡ Some p → full_flaw same most es key ≡ None
  replaces p d some = ap (λ b. cond b None (Some Memory)) (or_left _ _ (ap is_some (place_some same es key p d some)))

module _ {E K V : Type 0} (entry : E → K × V) (same : K → K → Bool) where
  -- whether two entries stand under one key
  abbrev pub alike : E → E → Bool
  alike x y = same (entry x).0 (entry y).0

  -- the first entry under a key is the first match
  pub place_is : (es : List E) (key : K) → position (λ e. same (entry e).0 key) es ≡ place_under same (map entry es) key
  place_is [] key = refl
  place_is (e ∷ es) key = position-more (λ x. same (entry x).0 key) e es ∙ ap (λ o. cond (same (entry e).0 key) (Some 0) (option_map suc o)) (place_is es key)

  -- what its place tells of the value under a key
  pub found_value : (es : List E) (key : K) (p : ℕ) (e : E) → position (λ x. same (entry x).0 key) es ≡ Some p → e ≡ get_or es p e → value_under same (map entry es) key ≡ Some (entry e).1
  found_value es key p e found is =
      let at = sym (place_is es key) ∙ found in
      let within : p < length es = omega (arith, length-map es entry, first-within same (map entry es) key p (place_first same (map entry es) key p at)) in
      place_some same (map entry es) key p (entry e) at ∙ ap (λ x. Some x.1) (get_or-map entry es p e (entry e) within ∙ ap entry (sym is))

  pub missing_value : (es : List E) (key : K) → position (λ x. same (entry x).0 key) es ≡ None → value_under same (map entry es) key ≡ None
  missing_value es key missing = place_none same (map entry es) key (sym (place_is es key) ∙ missing)

  pub value_is : (es : List E) (key : K) → option_map (λ e. (entry e).1) (find (λ e. same (entry e).0 key) es) ≡ value_under same (map entry es) key
  value_is [] key = refl
  value_is (e ∷ es) key = go (same (entry e).0 key) (value_is es key)
    where
      go : (b : Bool) → option_map (λ x. (entry x).1) (find (λ x. same (entry x).0 key) es) ≡ value_under same (map entry es) key → option_map (λ x. (entry x).1) (cond b (Some e) (find (λ x. same (entry x).0 key) es)) ≡ cond b (Some (entry e).1) (value_under same (map entry es) key)
      go true h = refl
      go false h = h

  put_later : (x : E) (o : Option ℕ) (es : List E) (e : E) → put_at (option_map suc o) (x ∷ es) e ≡ x ∷ put_at o es e
  put_later x None es e = refl
  put_later x (Some p) es e = refl

  put_placed : (es : List E) (e : E) → map entry (put_at (place_under same (map entry es) (entry e).0) es e) ≡ put_under same (map entry es) (entry e).0 (entry e).1
  put_placed [] e = refl
  put_placed (x ∷ es) e = go (same (entry x).0 (entry e).0) (place_under same (map entry es) (entry e).0) (put_placed es e)
    where
      go : (b : Bool) (o : Option ℕ) → map entry (put_at o es e) ≡ put_under same (map entry es) (entry e).0 (entry e).1 → map entry (put_at (cond b (Some 0) (option_map suc o)) (x ∷ es) e) ≡ cond b (entry e ∷ map entry es) (entry x ∷ put_under same (map entry es) (entry e).0 (entry e).1)
      go true o h = refl
      go false o h = ap (map entry) (put_later x o es e) ∙ ap (λ l. entry x ∷ l) h

  -- an entry put, where there is room, is its value put under its key; there is room just where the
  -- table is not full
  module _ (most : ℕ) (es : List E) (e : E) where
    room_is : has_room alike most es e ≡ (is_some (value_under same (map entry es) (entry e).0) || ltb (length (map entry es)) most)
    room_is = λ i. (ap is_some (place_is es (entry e).0) ∙ place_held same (map entry es) (entry e).0) i || ltb (sym (length-map es entry) i) most

    pub put_told : cond (has_room alike most es e) (Ok tt) (Err Memory) ≡ refused_with {A = Unit {0}} (full_flaw same most (map entry es) (entry e).0) tt
    put_told = go (has_room alike most es e) ∙ ap (λ b. refused_with (unless b Memory) tt) room_is
      where
        go : (b : Bool) → cond b (Ok tt) (Err Memory) ≡ refused_with {A = Unit {0}} (unless b Memory) tt
        go true = refl
        go false = refl

    pub put_left : map entry (with_put alike most es e) ≡ settled (full_flaw same most (map entry es) (entry e).0) (put_under same (map entry es) (entry e).0 (entry e).1) (map entry es)
    put_left = go (has_room alike most es e) (ap (λ o. map entry (put_at o es e)) (place_is es (entry e).0) ∙ put_placed es e) ∙ ap (λ b. settled (unless b Memory) (put_under same (map entry es) (entry e).0 (entry e).1) (map entry es)) room_is
      where
        go : (b : Bool) → map entry (put_at (its_place alike es e) es e) ≡ put_under same (map entry es) (entry e).0 (entry e).1 → map entry (cond b (put_at (its_place alike es e) es e) es) ≡ settled (unless b Memory) (put_under same (map entry es) (entry e).0 (entry e).1) (map entry es)
        go true h = h
        go false h = refl
