-- Laws of tables under keys, for every kind of key and any test that decides whether two are equal.
use Rattle.std.proofs.Common.{◌≡◌, ℕ, zero, suc, ◌+◌, ◌<◌, Bool, true, false, cond, not, List, [], ◌∷◌, ◌++◌, map, length, get_or, take, set, is_some, Some, None, Decides, Option, sym, refl, ap, ◌∙◌, subst, arith}
use Rattle.std.specs.Option.{option_map}
use Rattle.std.specs.List.{ContainsAt}
use Rattle.std.proofs.lemmas.List.{get_or-map, length-map}
use Rattle.std.proofs.lemmas.Bool.{cond-true, cond-false, both_ways, and_parts, and_from, not-true}
use Rattle.tables.specs.Tables.{value_under, place_under, put_under, distinct}

-- the key is under no entry
abbrev pub Absent : {K V : Type 0} → (K → K → Bool) → List (K × V) → K → Type 0
Absent same [] key = Unit {0}
Absent same (e ∷ es) key = (same e.0 key ≡ false) × Absent same es key

-- its first match is at p
abbrev pub FirstAt : {K V : Type 0} → (K → K → Bool) → List (K × V) → K → ℕ → Type 0
FirstAt same [] key p = ⊥
FirstAt same (e ∷ es) key zero = same e.0 key ≡ true
FirstAt same (e ∷ es) key (suc p) = (same e.0 key ≡ false) × FirstAt same es key p

abbrev pub Located : {K V : Type 0} → (K → K → Bool) → List (K × V) → K → Option ℕ → Type 0
Located same es key None = Absent same es key
Located same es key (Some p) = FirstAt same es key p

module _ {K V : Type 0} (same : K → K → Bool) where
  located_later : (e : K × V) (es : List (K × V)) (key : K) (o : Option ℕ) → same e.0 key ≡ false → Located same es key o → Located same (e ∷ es) key (option_map suc o)
  located_later e es key None f h = (f, h)
  located_later e es key (Some p) f h = (f, h)

  pub located : (es : List (K × V)) (key : K) → Located same es key (place_under same es key)
  located [] key = tt
  located (e ∷ es) key = go (same e.0 key) refl (located es key)
    where
      go : (b : Bool) → same e.0 key ≡ b → Located same es key (place_under same es key) → Located same (e ∷ es) key (cond b (Some 0) (option_map suc (place_under same es key)))
      go true f h = f
      go false f h = located_later e es key (place_under same es key) f h

  pub absent_place : (es : List (K × V)) (key : K) → Absent same es key → place_under same es key ≡ None
  absent_place [] key a = refl
  absent_place (e ∷ es) key a = cond-false _ _ _ a.0 ∙ ap (option_map suc) (absent_place es key a.1)

  pub first_place : (es : List (K × V)) (key : K) (p : ℕ) → FirstAt same es key p → place_under same es key ≡ Some p
  first_place [] key p h = absurd h
  first_place (e ∷ es) key zero h = cond-true _ _ _ h
  first_place (e ∷ es) key (suc p) h = cond-false _ _ _ h.0 ∙ ap (option_map suc) (first_place es key p h.1)

  pub absent_value : (es : List (K × V)) (key : K) → Absent same es key → value_under same es key ≡ None
  absent_value [] key a = refl
  absent_value (e ∷ es) key a = cond-false _ _ _ a.0 ∙ absent_value es key a.1

  pub first_value : (es : List (K × V)) (key : K) (p : ℕ) (d : K × V) → FirstAt same es key p → value_under same es key ≡ Some (get_or es p d).1
  first_value [] key p d h = absurd h
  first_value (e ∷ es) key zero d h = cond-true _ _ _ h
  first_value (e ∷ es) key (suc p) d h = cond-false _ _ _ h.0 ∙ first_value es key p d h.1

  pub first-within : (es : List (K × V)) (key : K) (p : ℕ) → FirstAt same es key p → p < length es
  first-within [] key p h = absurd h
  first-within (e ∷ es) key zero h = omega arith
  first-within (e ∷ es) key (suc p) h = omega (arith, first-within es key p h.1)

  pub first_key : (es : List (K × V)) (key : K) (p : ℕ) (d : K × V) → FirstAt same es key p → same (get_or es p d).0 key ≡ true
  first_key [] key p d h = absurd h
  first_key (e ∷ es) key zero d h = h
  first_key (e ∷ es) key (suc p) d h = first_key es key p d h.1

  pub absent_put : (es : List (K × V)) (key : K) (v : V) → Absent same es key → put_under same es key v ≡ es ++ (key, v) ∷ []
  absent_put [] key v a = refl
  absent_put (e ∷ es) key v a = cond-false _ _ _ a.0 ∙ ap (λ l. e ∷ l) (absent_put es key v a.1)

  pub first_put : (es : List (K × V)) (key : K) (v : V) (p : ℕ) → FirstAt same es key p → put_under same es key v ≡ set es p (key, v)
  first_put [] key v p h = absurd h
  first_put (e ∷ es) key v zero h = cond-true _ _ _ h
  first_put (e ∷ es) key v (suc p) h = cond-false _ _ _ h.0 ∙ ap (λ l. e ∷ l) (first_put es key v p h.1)

  -- a loop over the places: the key is absent from the first i entries
  pub absent_more : (es : List (K × V)) (key : K) (i : ℕ) (d : K × V) → i < length es → Absent same (take i es) key → same (get_or es i d).0 key ≡ false → Absent same (take (i + 1) es) key
  absent_more es key i d l a f = subst (λ n. Absent same (take n es) key) (let n : suc i ≡ i + 1 = omega arith in n) (go es i l a f)
    where
      go : (xs : List (K × V)) (n : ℕ) → n < length xs → Absent same (take n xs) key → same (get_or xs n d).0 key ≡ false → Absent same (take (suc n) xs) key
      go [] n h b t = absurd (omega arith)
      go (x ∷ xs) zero h b t = (t, tt)
      go (x ∷ xs) (suc n) h b t = (b.0, go xs n (omega arith) b.1 t)

  pub absent_found : (es : List (K × V)) (key : K) (i : ℕ) (d : K × V) → i < length es → Absent same (take i es) key → same (get_or es i d).0 key ≡ true → FirstAt same es key i
  absent_found [] key i d l a f = absurd (omega arith)
  absent_found (e ∷ es) key zero d l a f = f
  absent_found (e ∷ es) key (suc i) d l a f = (a.0, absent_found es key i d (omega arith) a.1 f)

-- what holds of a value under a key, where it holds of every entry
pub value_holds : {K V : Type 0} (same : K → K → Bool) (P : K → V → Type 0) (es : List (K × V)) (key : K) (v : V) → ((i : ℕ) (d : K × V) → i < length es → P (get_or es i d).0 (get_or es i d).1) → ((x y : K) → same x y ≡ true → x ≡ y) → value_under same es key ≡ Some v → P key v
value_holds {K = K} {V = V} same P es key v each tells e = go (place_under same es key) (located same es key)
  where
    go : (o : Option ℕ) → Located same es key o → P key v
    go None a = absurd (let n = absent_value same es key a in let z : ◌≡◌ {A = ℕ} 0 1 = cc in omega arith)
    go (Some p) f =
        let d : K × V = (key, v) in
        let is : (get_or es p d).1 ≡ v = (let n = first_value same es key p d f in cc) in
        let at : (get_or es p d).0 ≡ key = tells _ _ (first_key same es key p d f) in
        subst (λ k. P k v) at (subst (λ x. P (get_or es p d).0 x) is (each p d (first-within same es key p f)))

-- two keys that a third equals are equal
apart_keys : {K : Type 0} (same : K → K → Bool) (tells : (x y : K) → Decides (same x y) (x ≡ y)) (x y k : K) → same x y ≡ false → same x k ≡ true → same y k ≡ true → ⊥
apart_keys same tells x y k f a b = both_ways _ f ((tells x y).1 ((tells x k).0 a ∙ sym ((tells y k).0 b)))

module _ {K V : Type 0} (same : K → K → Bool) (tells : (x y : K) → Decides (same x y) (x ≡ y)) where
  -- what is under a key once a value is put
  pub value_put : (es : List (K × V)) (key : K) (v : V) (k : K) → value_under same (put_under same es key v) k ≡ cond (same key k) (Some v) (value_under same es k)
  value_put [] key v k = refl
  value_put (e ∷ es) key v k = go (same e.0 key) (same e.0 k) (same key k) refl refl refl (value_put es key v k)
    where
      go : (a b c : Bool) → same e.0 key ≡ a → same e.0 k ≡ b → same key k ≡ c → value_under same (put_under same es key v) k ≡ cond c (Some v) (value_under same es k) → value_under same (cond a ((key, v) ∷ es) (e ∷ put_under same es key v)) k ≡ cond c (Some v) (cond b (Some e.1) (value_under same es k))
      go true true true p q r h = cond-true _ _ _ r
      go true false false p q r h = cond-false _ _ _ r
      go true true false p q r h = absurd (both_ways _ r ((tells key k).1 (sym ((tells _ _).0 p) ∙ (tells _ _).0 q)))
      go true false true p q r h = absurd (both_ways _ q ((tells _ _).1 ((tells _ _).0 p ∙ (tells key k).0 r)))
      go false true true p q r h = absurd (apart_keys same tells e.0 key k p q r)
      go false true false p q r h = cond-true _ _ _ q
      go false false true p q r h = cond-false _ _ _ q ∙ h
      go false false false p q r h = cond-false _ _ _ q ∙ h

  distinct_later : (e : K × V) (es : List (K × V)) (key : K) (v : V) → same e.0 key ≡ false → value_under same es e.0 ≡ None → value_under same (put_under same es key v) e.0 ≡ None
  distinct_later e es key v f n = value_put es key v e.0 ∙ cond-false _ _ _ (go (same key e.0) refl) ∙ n
    where
      go : (b : Bool) → same key e.0 ≡ b → same key e.0 ≡ false
      go true p = absurd (both_ways _ f ((tells _ _).1 (sym ((tells _ _).0 p))))
      go false p = p

  not_held : (o : Option V) → not (is_some o) ≡ true → o ≡ None
  not_held None e = refl
  not_held (Some x) e = absurd (let z : ◌≡◌ {A = ℕ} 0 1 = cc in omega arith)

  -- a table stays one without a key that comes twice
  pub distinct_put : (es : List (K × V)) (key : K) (v : V) → distinct same es ≡ true → distinct same (put_under same es key v) ≡ true
  distinct_put [] key v h = refl
  distinct_put (e ∷ es) key v h = go (same e.0 key) refl (and_parts _ _ h) (distinct_put es key v)
    where
      go : (b : Bool) → same e.0 key ≡ b → (not (is_some (value_under same es e.0)) ≡ true) × (distinct same es ≡ true) → (distinct same es ≡ true → distinct same (put_under same es key v) ≡ true) → distinct same (cond b ((key, v) ∷ es) (e ∷ put_under same es key v)) ≡ true
      go true p t ih = and_from _ _ (subst (λ k. not (is_some (value_under same es k)) ≡ true) ((tells _ _).0 p) t.0) t.1
      go false p t ih = and_from _ _ (ap (λ o. not (is_some o)) (distinct_later e es key v p (not_held _ t.0))) (ih t.1)

-- what a look-up of the place tells of the value
pub place_none : {K V : Type 0} (same : K → K → Bool) (es : List (K × V)) (key : K) → place_under same es key ≡ None → value_under same es key ≡ None
place_none same es key e = absent_value same es key (subst (Located same es key) e (located same es key))

pub place_first : {K V : Type 0} (same : K → K → Bool) (es : List (K × V)) (key : K) (p : ℕ) → place_under same es key ≡ Some p → FirstAt same es key p
place_first same es key p e = subst (Located same es key) e (located same es key)

pub place_some : {K V : Type 0} (same : K → K → Bool) (es : List (K × V)) (key : K) (p : ℕ) (d : K × V) → place_under same es key ≡ Some p → value_under same es key ≡ Some (get_or es p d).1
place_some same es key p d e = first_value same es key p d (place_first same es key p e)

-- the keys of a table
abbrev pub keys : {K V : Type 0} → List (K × V) → List K
keys es = map (λ e. e.0) es

module _ {K V : Type 0} (same : K → K → Bool) (tells : (x y : K) → Decides (same x y) (x ≡ y)) where
  key_held : (es : List (K × V)) (i : ℕ) (d : K) → i < length (keys es) → is_some (value_under same es (get_or (keys es) i d)) ≡ true
  key_held [] i d h = absurd (omega arith)
  key_held (e ∷ es) zero d h = ap is_some (cond-true _ _ _ ((tells e.0 e.0).1 refl))
  key_held (e ∷ es) (suc i) d h = go (same e.0 (get_or (keys es) i d)) (key_held es i d (omega arith))
    where
      go : (b : Bool) → is_some (value_under same es (get_or (keys es) i d)) ≡ true → is_some (cond b (Some e.1) (value_under same es (get_or (keys es) i d))) ≡ true
      go true t = refl
      go false t = t

  held_has : (es : List (K × V)) (key : K) (o : Option ℕ) → Located same es key o → is_some (value_under same es key) ≡ true → ContainsAt (keys es) key
  held_has es key None a t = absurd (both_ways _ (ap is_some (absent_value same es key a)) t)
  held_has es key (Some p) f t =
      let within = first-within same es key p f in
      (p, (let long = length-map es (λ e. e.0) in omega arith), λ d. go d (value_under same es key) refl t)
    where
      go : (d : K) (v : Option V) → value_under same es key ≡ v → is_some (value_under same es key) ≡ true → get_or (keys es) p d ≡ key
      go d None e t = absurd (both_ways _ (ap is_some e) t)
      go d (Some v) e t = get_or-map (λ x. x.0) es p (key, v) d (first-within same es key p f) ∙ (tells _ _).0 (first_key same es key p (key, v) f)

  -- a key is held exactly when it is one of the keys
  pub held_keys : (es : List (K × V)) (key : K) → Decides (is_some (value_under same es key)) (ContainsAt (keys es) key)
  held_keys es key = (held_has es key (place_under same es key) (located same es key), λ h. subst (λ k. is_some (value_under same es k) ≡ true) (h.2 key) (key_held es h.0 key h.1))

  pub keys_once : (es : List (K × V)) (d : K) → distinct same es ≡ true → (i j : ℕ) → i < length (keys es) → j < length (keys es) → get_or (keys es) i d ≡ get_or (keys es) j d → i ≡ j
  keys_once [] d t i j a b e = absurd (omega arith)
  keys_once (x ∷ es) d t zero zero a b e = refl
  keys_once (x ∷ es) d t zero (suc j) a b e = absurd (both_ways _ (not-true _ (and_parts _ _ t).0) (subst (λ k. is_some (value_under same es k) ≡ true) (sym e) (key_held es j d (omega arith))))
  keys_once (x ∷ es) d t (suc i) zero a b e = absurd (both_ways _ (not-true _ (and_parts _ _ t).0) (subst (λ k. is_some (value_under same es k) ≡ true) e (key_held es i d (omega arith))))
  keys_once (x ∷ es) d t (suc i) (suc j) a b e = ap suc (keys_once es d (and_parts _ _ t).1 i j (omega arith) (omega arith) e)
