-- What a session has recorded, backwards from an accepted opening: each assertion accepted since the
-- clearing held when it had to.
use Rattle.std.proofs.Common.{◌≡◌, ℕ, ◌^◌, Bool, true, false, not, ◌||◌, ◌==◌, bit_and, eqb-true, List, [], ◌∷◌, ◌++◌, map, Some, None, Ok, Option, sym, refl, ap, ◌∙◌, subst, inl, inr, eq-eqb}
use Rattle.std.specs.List.{AllByRecursion}
use Rattle.std.specs.Int.Bits.{and_zero_r}
use Rattle.std.proofs.lemmas.Bool.{and_parts}
use Rattle.std.proofs.lemmas.Nat.{and_assoc, and_comm}
use Rattle.std.proofs.lemmas.Slice.Eq.{bytes_eq-Decides}
use Rattle.interfaces.specs.declared.code.Code.{Code}
use Rattle.interfaces.specs.Checks.{refused_with}
use Rattle.interfaces.specs.Hashing.{Hashing}
use Rattle.interfaces.specs.States.{Snapshot}
use Rattle.policy.specs.Assertions.{Assertion, pcr, nv, time, locality, command, presence, password}
use Rattle.conditions.specs.Meeting.{unmet}
use Rattle.calls.specs.Calls.{Call, assert, or}
use Rattle.session.specs.Books.{Book, Shelf, book_at}
use Rattle.session.specs.History.{Accepted, HeldAtCall, HoldsAtOpening, IsIn, Steadily, asserted, asserted_by, made_of}
use Rattle.session.specs.Openings.{Request, allows_locality, book_answer, book_flaw, has_locality, opening, same_password, tries_left, unseal}
use Rattle.session.specs.Steps.{Progress, after, assertion_record_flaw, common_set, count_flaw, recorded, same_record, with_digest}
use Rattle.session.proofs.Histories.{AllStand, Stands, both_pass, code_passes, unless_passes}

-- a bit of what two sets have in common is a bit of each
common_none : (a b n : ℕ) → (bit_and b (2 ^ n) == 0) ≡ true → (bit_and (bit_and a b) (2 ^ n) == 0) ≡ true
common_none a b n e = eq-eqb _ _ (and_assoc (2 ^ n) a b ∙ ap (bit_and a) (eqb-true _ _ e) ∙ and_zero_r a)

lacks : (b c : Bool) → (b ≡ true → c ≡ true) → not c ≡ true → not b ≡ true
lacks true true f e = e
lacks true false f e = f refl
lacks false c f e = refl

has_later : (a b n : ℕ) → has_locality (bit_and a b) n ≡ true → has_locality b n ≡ true
has_later a b n e = lacks _ _ (common_none a b n) e

has_earlier : (a b n : ℕ) → has_locality (bit_and a b) n ≡ true → has_locality a n ≡ true
has_earlier a b n e = has_later b a n (ap (λ x. has_locality x n) (and_comm b a) ∙ e)

has_both : (o : Option ℕ) (set n : ℕ) → has_locality (common_set o set) n ≡ true → (allows_locality o n ≡ true) × (has_locality set n ≡ true)
has_both None set n e = (refl, e)
has_both (Some old) set n e = (has_earlier old set n e, has_later old set n e)

all_append : {A : Type 0} (P : A → Type 0) (xs ys : List A) → AllByRecursion P xs → AllByRecursion P ys → AllByRecursion P (xs ++ ys)
all_append P [] ys f g = g
all_append P (x ∷ xs) ys f g = (f.0, all_append P xs ys f.1 g)

-- an assertion that was not refused held for its call's state, where that is asked
held_at_call : (h : Hashing) (found : Snapshot) (a : Assertion) → unmet h found a ≡ None → HeldAtCall h (found, a)
held_at_call h found (nv name c) u = u
held_at_call h found (time c) u = u
held_at_call h found _ u = tt

-- what was not needed before may be needed later
unneeded : (b c : Bool) → c ≡ true → (not b || c) ≡ true
unneeded true c e = e
unneeded false c e = refl

module _ (h : Hashing) (s : Snapshot) (shelf : Shelf) (q : Request) (b : Book) where
  -- the records allow the opening: the count, the command, the localities, presence and the password
  abbrev pub Allows : Progress → Type 0
  Allows p =
      (same_record p.count s.count ≡ true)
      × (same_record p.command unseal ≡ true)
      × (allows_locality p.localities s.locality ≡ true)
      × ((not p.presence || s.presence) ≡ true)
      × ((not p.password || tries_left shelf) ≡ true)
      × ((not p.password || same_password q.given b.password) ≡ true)

  flaw_none : (p : Progress) → book_flaw h s shelf p q b ≡ None → (b.digest ≡ p.digest) × Allows p
  flaw_none p e =
      let count = both_pass _ _ e in
      let digest = both_pass _ _ count.1 in
      let command = both_pass _ _ digest.1 in
      let localities = both_pass _ _ command.1 in
      let presence = both_pass _ _ localities.1 in
      let tries = both_pass _ _ presence.1 in
      let password = both_pass _ _ tries.1 in
      let same = (bytes_eq-Decides b.digest p.digest).0 (and_parts _ _ (unless_passes _ _ digest.0)).1 in
      (same, (unless_passes _ _ count.0, unless_passes _ _ command.0, unless_passes _ _ localities.0, unless_passes _ _ presence.0, unless_passes _ _ tries.0, unless_passes _ _ password.0))

  -- `Steadily` is asked of the opening's state and of those that the calls found
  module _ (states : List Snapshot) (here : IsIn s states) where
    abbrev Holds : Assertion → Type 0
    Holds a = HoldsAtOpening h s shelf q b (Steadily states) a

    -- backwards over an accepted assertion: it holds, and the records before it allow the opening
    back : (found : Snapshot) → IsIn found states → (p : Progress) (d : List ℕ) (a : Assertion) → assertion_record_flaw p a ≡ None → count_flaw p found.count a ≡ None → unmet h found a ≡ None → Allows (recorded true found.count a (with_digest p d)) → Allows p × Holds a
    back found there p d (pcr selection digest) r c u k =
        let same : found.count ≡ s.count = eqb-true _ _ k.0 in
        let count = ap (same_record p.count) (sym same) ∙ unless_passes _ _ c in
        ((count, k.1, k.2, k.3, k.4, k.5), λ steady. ap (λ x. unmet h (record s { pcrs = x }) (pcr selection digest)) (sym (steady found s there here same)) ∙ u)
    back found there p d (nv name x) r c u k = (k, tt)
    back found there p d (time x) r c u k = (k, tt)
    back found there p d (locality set) r c u k =
        let both = has_both p.localities set s.locality k.2 in
        ((k.0, k.1, both.0, k.3, k.4, k.5), both.1)
    back found there p d (command code) r c u k =
        let same : code ≡ unseal = eqb-true _ _ k.1 in
        ((k.0, ap (same_record p.command) (sym same) ∙ unless_passes _ _ r, k.2, k.3, k.4, k.5), same)
    back found there p d presence r c u k = ((k.0, k.1, k.2, unneeded p.presence s.presence k.3, k.4, k.5), k.3)
    back found there p d password r c u k = ((k.0, k.1, k.2, k.3, unneeded p.password _ k.4, unneeded p.password _ k.5), (k.5, k.4))

    -- a call's part in what was asserted
    backwards : (found : Snapshot) → IsIn found states → (before : List Accepted) (c : Call) → Stands h (record { found = found; call = c }) before → Allows (after true h found (made_of h before) c) → Allows (made_of h before) × AllByRecursion (λ p. Holds p.1) (asserted_by (record { found = found; call = c }) c) × AllByRecursion (HeldAtCall h) (asserted_by (record { found = found; call = c }) c)
    backwards found there before (assert a) st k =
        let checks = both_pass _ _ st.state in
        let r = back found there (made_of h before) _ a st.records (code_passes _ checks.0) checks.1 k in
        (r.0, (r.1, tt), (held_at_call h found a checks.1, tt))
    backwards found there before (or ds) st k = (k, tt, tt)

    pub all_held : (cs : List Accepted) → AllStand h cs → ((x : Snapshot) → IsIn x (map (λ a. a.found) cs) → IsIn x states) → Allows (made_of h cs) → AllByRecursion (λ p. Holds p.1) (asserted cs) × AllByRecursion (HeldAtCall h) (asserted cs)
    all_held [] st found k = (tt, tt)
    all_held (a ∷ before) st found k =
        let this = backwards a.found (found a.found (inl refl)) before a.call st.0 k in
        let rest = all_held before st.1 (λ x i. found x (inr i)) this.0 in
        (all_append _ (asserted before) _ rest.0 this.1, all_append _ (asserted before) _ rest.1 this.2)

  refused_none : (f : Option Code) (x : Book) → refused_with f x ≡ Ok b → (f ≡ None) × (x ≡ b)
  refused_none None x e = (refl, let same : x ≡ b = cc in same)
  refused_none (Some c) x e = absurd cc

  answer_ok : (p : Progress) (o : Option Book) → book_answer h s shelf p q o ≡ Ok b → (b.digest ≡ p.digest) × Allows p
  answer_ok p None e = absurd cc
  answer_ok p (Some x) e =
      let r = refused_none _ x e in
      flaw_none p (subst (λ y. book_flaw h s shelf p q y ≡ None) r.1 r.0)

  -- an accepted opening found the book's digest, and records that allow it
  pub opening_ok : (p : Progress) → opening h s shelf p q ≡ Ok b → (b.digest ≡ p.digest) × Allows p
  opening_ok p e = answer_ok p (book_at shelf q.place) e
