-- An accepted opening means that a whole branch of the policy has been kept.
use Rattle.std.proofs.Common.{◌≡◌, ℕ, true, ◌⊎◌, List, [], ◌∷◌, ◌++◌, map, length, Ok, sym, refl, ap, ◌∙◌, subst, inl, inr, ⊎_elim, true≢false}
use Rattle.std.proofs.lemmas.Bool.{and_parts, or_cases}
use Rattle.std.proofs.lemmas.List.{append-nil, map-append}
use Rattle.std.proofs.lemmas.Slice.Eq.{bytes_eq-Decides}
use Rattle.interfaces.specs.Hashing.{Hashing, Lawful}
use Rattle.interfaces.specs.States.{Snapshot}
use Rattle.policy.specs.Assertions.{Assertion, pcr}
use Rattle.policy.specs.Lines.{HoldsAssertion}
use Rattle.policy.specs.Strings.{body, command_code, inner, join_string, step_string}
use Rattle.tree.specs.Trees.{Tree, Forest, leaf, step, choice, nil, cons, branches, forest_branches, tree_digest, forest_digests, Formed, FormedAll}
use Rattle.calls.specs.Calls.{Call, assert, or}
use Rattle.session.specs.Books.{Book, Shelf}
use Rattle.session.specs.History.{Accepted, Escape, IsIn, OnlyByAKeptBranch, accepted_since, asserted, call_strings, forest_strings, made_of, session_strings, tree_strings}
use Rattle.session.specs.Openings.{Request, opening}
use Rattle.session.specs.Steps.{Progress, among, recorded}
use Rattle.session.proofs.Histories.{AllStand, Stands, since_leads, code_passes, unless_passes}
use Rattle.session.proofs.Records.{all_held, opening_ok}
use Rattle.session.proofs.Strings.{Sized, Within, assertion_same, join_same, same_string, sized_from, step_no_join, step_parts, zeros_sized}

in_left : {A : Type 0} (x : A) (ys zs : List A) → IsIn x ys → IsIn x (ys ++ zs)
in_left x [] zs i = absurd i
in_left x (y ∷ ys) zs (inl e) = inl e
in_left x (y ∷ ys) zs (inr i) = inr (in_left x ys zs i)

in_right : {A : Type 0} (x : A) (ys zs : List A) → IsIn x zs → IsIn x (ys ++ zs)
in_right x [] zs i = i
in_right x (y ∷ ys) zs i = inr (in_right x ys zs i)

in_map : {A B : Type 0} (f : A → B) (x : A) (xs : List A) → IsIn x xs → IsIn (f x) (map f xs)
in_map f x [] i = absurd i
in_map f x (y ∷ ys) (inl e) = inl (ap f e)
in_map f x (y ∷ ys) (inr i) = inr (in_map f x ys i)

-- what was asserted, without the states
abbrev told : List Accepted → List Assertion
told cs = map (λ p. p.1) (asserted cs)

-- the last string hashed for a call
abbrev call_string : Hashing → List ℕ → Call → List ℕ
call_string h old (assert a) = step_string h old a
call_string h old (or ds) = join_string h ds

call_string_in : (h : Hashing) (old : List ℕ) (c : Call) → IsIn (call_string h old c) (call_strings h old c)
call_string_in h old (assert a) = in_right _ (inner a) _ (inl refl)
call_string_in h old (or ds) = inl refl

step_string_in : (h : Hashing) (t : Tree) (a : Assertion) → IsIn (step_string h (tree_digest h t) a) (tree_strings h (step t a))
step_string_in h t a = in_right _ (tree_strings h t ++ inner a) _ (inl refl)

join_string_in : (h : Hashing) (f : Forest) → IsIn (join_string h (forest_digests h f)) (tree_strings h (choice f))
join_string_in h f = in_right _ (forest_strings h f) _ (inl refl)

recorded-digest : (n : ℕ) (a : Assertion) (p : Progress) → (recorded true n a p).digest ≡ p.digest
recorded-digest n (pcr s d) p = refl
recorded-digest n _ p = refl

made-digest : (h : Hashing) (found : Snapshot) (c : Call) (before : List Accepted) → (made_of h (record { found = found; call = c } ∷ before)).digest ≡ h.digest (call_string h ((made_of h before).digest) c)
made-digest h found (assert a) before = recorded-digest found.count a _
made-digest h found (or ds) before = refl

-- what goes on, but for an escape
◌>>=◌ : {A B E : Type 0} → A ⊎ E → (A → B ⊎ E) → B ⊎ E
◌>>=◌ (inl a) f = f a
◌>>=◌ (inr e) f = inr e

module _ (h : Hashing) (ok : Lawful h) where
  made_sized : (cs : List Accepted) → length ((made_of h cs).digest) ≡ h.size
  made_sized [] = zeros_sized h
  made_sized (a ∷ before) = ap length (made-digest h a.found a.call before) ∙ ok.sized _

  tree_sized : (t : Tree) → length (tree_digest h t) ≡ h.size
  tree_sized leaf = zeros_sized h
  tree_sized (step t a) = ok.sized _
  tree_sized (choice f) = ok.sized _

  forest_sized : (f : Forest) → Sized h.size (forest_digests h f)
  forest_sized nil = tt
  forest_sized (cons t f) = (tree_sized t, forest_sized f)

module _ (h : Hashing) (ok : Lawful h) (strings : List (List ℕ)) where
  -- what the calls asserted is one of these branches, but for an escape
  abbrev OneOf : List Accepted → List (List Assertion) → Type 0
  OneOf cs bs = IsIn (told cs) bs ⊎ Escape h strings

  -- the calls keep a branch of each tree of their digest
  abbrev Keeps : List Accepted → Type 0
  Keeps cs = (t : Tree) → Formed h.size t → Within (tree_strings h t) strings → (made_of h cs).digest ≡ tree_digest h t → OneOf cs (branches t)

  none_keeps : Keeps []
  none_keeps leaf f w e = inl (inl refl)
  none_keeps (step t a) f w e = inr (inr (step_string h (tree_digest h t) a, w _ (step_string_in h t a), sym e))
  none_keeps (choice f) g w e = inr (inr (join_string h (forest_digests h f), w _ (join_string_in h f), sym e))

  -- a digest among those of a forest is that of one of its trees
  forest_keeps : (cs : List Accepted) → Keeps cs → (f : Forest) → FormedAll h.size f → Within (forest_strings h f) strings → among ((made_of h cs).digest) (forest_digests h f) ≡ true → OneOf cs (forest_branches f)
  forest_keeps cs keeps nil g w e = absurd (true≢false (sym e))
  forest_keeps cs keeps (cons t f) g w e =
      ⊎_elim
      (λ here. do
        i ← keeps t g.0 (λ x j. w x (in_left x (tree_strings h t) _ j)) (sym ((bytes_eq-Decides _ _).0 here))
        inl (in_left _ (branches t) _ i))
      (λ there. do
        i ← forest_keeps cs keeps f g.1 (λ x j. w x (in_right x (tree_strings h t) _ j)) there
        inl (in_right _ (branches t) _ i))
      (or_cases _ _ e)

  -- after one call more
  module _ (found : Snapshot) (before : List Accepted) (keeps : Keeps before) where
    abbrev old : List ℕ
    old = (made_of h before).digest

    abbrev with_call : Call → List Accepted
    with_call c = record { found = found; call = c } ∷ before

    -- an assertion's string is that of a tree's last assertion
    step_keeps : (a x : Assertion) (t : Tree) → HoldsAssertion a → HoldsAssertion x → Formed h.size t → Within (call_strings h old (assert a)) strings → Within (tree_strings h (step t x)) strings → step_string h old a ≡ step_string h (tree_digest h t) x → OneOf (with_call (assert a)) (branches (step t x))
    step_keeps a x t l k f v w one = do
      same ← assertion_same h strings ok a x l k (λ y i. v y (in_left y (inner a) _ i)) (λ y i. below y (in_right y (tree_strings h t) _ i)) parts.1 parts.2
      i ← keeps t f (λ y i. below y (in_left y (tree_strings h t) _ i)) parts.0
      inl (rw (map-append (λ p. p.1) (asserted before) ((found, a) ∷ []), same) (in_map (λ b. b ++ x ∷ []) (told before) (branches t) i))
      where
        parts : (old ≡ tree_digest h t) × (command_code a ≡ command_code x) × (body h a ≡ body h x)
        parts = step_parts h old a (made_sized h ok before) (tree_digest h t) x (tree_sized h ok t) one

        below : Within (tree_strings h t ++ inner x) strings
        below y i = w y (in_left y (tree_strings h t ++ inner x) _ i)

    asserted_keeps : (a : Assertion) → HoldsAssertion a → Within (call_strings h old (assert a)) strings → (t : Tree) → Formed h.size t → Within (tree_strings h t) strings → h.digest (step_string h old a) ≡ tree_digest h t → OneOf (with_call (assert a)) (branches t)
    asserted_keeps a l v leaf f w e = inr (inr (step_string h old a, v _ (call_string_in h old (assert a)), e))
    asserted_keeps a l v (step t x) f w e = do
      one ← same_string h strings (step_string h old a) (step_string h (tree_digest h t) x) (v _ (call_string_in h old (assert a))) (w _ (step_string_in h t x)) e
      step_keeps a x t l f.1 f.0 v w one
    asserted_keeps a l v (choice g) f w e = do
      one ← same_string h strings (step_string h old a) (join_string h (forest_digests h g)) (v _ (call_string_in h old (assert a))) (w _ (join_string_in h g)) e
      absurd (step_no_join h old a (made_sized h ok before) (forest_digests h g) one)

    -- an `or` has a string for its digests alone, and the old digest is one of them
    joined_keeps : (ds : List (List ℕ)) → Sized h.size ds → among old ds ≡ true → Within (call_strings h old (or ds)) strings → (t : Tree) → Formed h.size t → Within (tree_strings h t) strings → h.digest (join_string h ds) ≡ tree_digest h t → OneOf (with_call (or ds)) (branches t)
    joined_keeps ds sized m v leaf f w e = inr (inr (join_string h ds, v _ (inl refl), e))
    joined_keeps ds sized m v (step t x) f w e = do
      one ← same_string h strings (join_string h ds) (step_string h (tree_digest h t) x) (v _ (inl refl)) (w _ (step_string_in h t x)) e
      absurd (step_no_join h (tree_digest h t) x (tree_sized h ok t) ds (sym one))
    joined_keeps ds sized m v (choice g) f w e = do
      one ← same_string h strings (join_string h ds) (join_string h (forest_digests h g)) (v _ (inl refl)) (w _ (join_string_in h g)) e
      kept ← forest_keeps before keeps g f.0 (λ y i. w y (in_left y (forest_strings h g) _ i)) (ap (among old) (sym (join_same h ok ds (forest_digests h g) sized (forest_sized h ok g) one)) ∙ m)
      inl (rw (append-nil (asserted before)) kept)

    more_keeps : (c : Call) → Stands h (record { found = found; call = c }) before → Within (call_strings h old c) strings → Keeps (with_call c)
    more_keeps (assert a) st v t f w e = asserted_keeps a st.holds v t f w (sym (made-digest h found (assert a) before) ∙ e)
    more_keeps (or ds) st v t f w e = joined_keeps ds (sized_from h.size ds (and_parts _ _ (unless_passes _ _ st.fields)).1) (unless_passes _ _ (code_passes _ st.state)) v t f w e

  all_keep : (cs : List Accepted) → AllStand h cs → Within (session_strings h cs) strings → Keeps cs
  all_keep [] st v = none_keeps
  all_keep (a ∷ before) st v = more_keeps a.found before (all_keep before st.1 (λ x i. v x (in_left x (session_strings h before) _ i))) a.call st.0 (λ x i. v x (in_right x (session_strings h before) _ i))

pub only_by_a_kept_branch : (h : Hashing) → Lawful h → (s : Snapshot) (shelf : Shelf) (q : Request) (p : Progress) (b : Book) → opening h s shelf p q ≡ Ok b → OnlyByAKeptBranch h s shelf q p b
only_by_a_kept_branch h ok s shelf q p b e es holds leads text t builds same =
    let m = since_leads h es holds in
    let since = accepted_since h es in
    let strings = session_strings h since ++ tree_strings h t in
    let o = opening_ok h s shelf q b (made_of h since) (ap (λ x. opening h s shelf x q) (m.made ∙ leads) ∙ e) in
    let held = all_held h s shelf q b (s ∷ map (λ a. a.found) since) (inl refl) since m.stand (λ x i. inr i) o.1 in
    let formed : Formed h.size t = subst (λ n. Formed n t) (sym ok.long) builds.formed in
    do
      i ← all_keep h ok strings since m.stand (λ x i. in_left x (session_strings h since) _ i) t formed (λ x i. in_right x (session_strings h since) _ i) (sym o.0 ∙ sym same)
      inl (record { is_branch = i; at_calls = held.1; at_opening = held.0 })
