-- Strings that are hashed: what equal ones are made of.
use Rattle.std.proofs.Common.{◌≡◌, ◌≢◌, ℕ, ◌≤◌, ◌<◌, Bool, true, false, ◌⊎◌, List, [], ◌∷◌, ◌++◌, length, take, drop, sym, refl, ap, ◌∙◌, inl, inr, ⊎_elim, true≢false, eqb-true, length-append, bytes_eq, arith}
use Rattle.std.proofs.lemmas.List.{length-replicate}
use Rattle.std.specs.List.{AllByRecursion, flat_map}
use Rattle.std.proofs.Math.Seq.{drop-append_seam, take-append_seam}
use Rattle.std.proofs.lemmas.Bool.{and_parts}
use Rattle.std.proofs.lemmas.Slice.Eq.{bytes_eq-Decides}
use Rattle.interfaces.specs.Hashing.{Hashing, Lawful, zeros}
use Rattle.policy.specs.Assertions.{Comparison, Assertion, pcr, nv, time, locality, command, presence, password}
use Rattle.policy.specs.Lines.{HoldsAssertion, HoldsComparison, be2, be4}
use Rattle.policy.specs.Strings.{bank_selection, body, command_code, comparison_string, inner, join_string, or_code, step_string}
use Rattle.calls.specs.Calls.{all_sized}
use Rattle.session.specs.History.{Escape, IsIn}

-- equal strings whose fronts, or whose backs, have one length split there
pub split : (xs ys us vs : List ℕ) → length xs ≡ length ys → xs ++ us ≡ ys ++ vs → (xs ≡ ys) × (us ≡ vs)
split xs ys us vs l e =
    (sym (take-append_seam xs us) ∙ (λ i. take (l i) (e i)) ∙ take-append_seam ys vs, sym (drop-append_seam xs us) ∙ (λ i. drop (l i) (e i)) ∙ drop-append_seam ys vs)

split_back : (xs ys us vs : List ℕ) → length us ≡ length vs → xs ++ us ≡ ys ++ vs → (xs ≡ ys) × (us ≡ vs)
split_back xs ys us vs l e = split xs ys us vs (omega (arith, length-append xs us, length-append ys vs, ap length e)) e

be2_same : (n m : ℕ) → n < 65536 → m < 65536 → be2 n ≡ be2 m → n ≡ m
be2_same n m l k e = grind arith

be4_same : (n m : ℕ) → n < 4294967296 → m < 4294967296 → be4 n ≡ be4 m → n ≡ m
be4_same n m l k e = grind arith

code_short : (a : Assertion) → command_code a < 4294967296
code_short (pcr s d) = omega arith
code_short _ = omega arith

code_other : (a : Assertion) → command_code a ≢ or_code
code_other (pcr s d) e = omega arith
code_other _ e = omega arith

-- a digest and a command's code in front
module _ (size : ℕ) (old old' : List ℕ) (n m : ℕ) (front : length old ≡ size) (front' : length old' ≡ size) (low : n < 4294967296) (low' : m < 4294967296) where
  coded_parts : (us vs : List ℕ) → old ++ be4 n ++ us ≡ old' ++ be4 m ++ vs → (old ≡ old') × (n ≡ m) × (us ≡ vs)
  coded_parts us vs e =
      let p = split (old ++ be4 n) (old' ++ be4 m) us vs (omega (arith, length-append old (be4 n), length-append old' (be4 m))) e in
      let q = split old old' (be4 n) (be4 m) (front ∙ sym front') p.0 in
      (q.0, be4_same n m low low' q.1, p.1)

pub zeros_sized : (h : Hashing) → length (zeros h) ≡ h.size
zeros_sized h = length-replicate h.size 0

-- a step's string is no joining's, and tells the old digest, the command and the body
module _ (h : Hashing) (old : List ℕ) (a : Assertion) (front : length old ≡ h.size) where
  pub step_no_join : (ds : List (List ℕ)) → step_string h old a ≡ join_string h ds → ⊥
  step_no_join ds e = code_other a (coded_parts h.size old (zeros h) (command_code a) or_code front (zeros_sized h) (code_short a) (omega arith) _ _ e).1

  pub step_parts : (old' : List ℕ) (x : Assertion) → length old' ≡ h.size → step_string h old a ≡ step_string h old' x → (old ≡ old') × (command_code a ≡ command_code x) × (body h a ≡ body h x)
  step_parts old' x front' e = coded_parts h.size old old' (command_code a) (command_code x) front front' (code_short a) (code_short x) _ _ e

-- digests of one size are the same where they are joined to one string
abbrev pub Sized : ℕ → List (List ℕ) → Type 0
Sized size ds = AllByRecursion (λ d. length d ≡ size) ds

flat_same : (size : ℕ) → 1 ≤ size → (ds es : List (List ℕ)) → Sized size ds → Sized size es → flat_map (λ d. d) ds ≡ flat_map (λ d. d) es → ds ≡ es
flat_same size some [] [] s k e = refl
flat_same size some [] (x ∷ es) s k e = absurd (omega (arith, k.0, length-append x (flat_map (λ d. d) es), ap length e))
flat_same size some (d ∷ ds) [] s k e = absurd (omega (arith, s.0, length-append d (flat_map (λ d. d) ds), ap length e))
flat_same size some (d ∷ ds) (x ∷ es) s k e =
    let p = split d x _ _ (s.0 ∙ sym k.0) e in
    let rest = flat_same size some ds es s.1 k.1 p.1 in
    λ i. p.0 i ∷ rest i

pub join_same : (h : Hashing) → Lawful h → (ds es : List (List ℕ)) → Sized h.size ds → Sized h.size es → join_string h ds ≡ join_string h es → ds ≡ es
join_same h ok ds es s k e = flat_same h.size (omega (arith, ok.long)) ds es s k (split (zeros h ++ be4 or_code) (zeros h ++ be4 or_code) _ _ refl e).1

pub sized_from : (size : ℕ) (ds : List (List ℕ)) → all_sized size ds ≡ true → Sized size ds
sized_from size [] e = tt
sized_from size (d ∷ ds) e =
    let p = and_parts _ _ e in
    (eqb-true _ _ p.0, sized_from size ds p.1)

-- a comparison's string tells the comparison
comparison_same : (c d : Comparison) → HoldsComparison c → HoldsComparison d → comparison_string c ≡ comparison_string d → c ≡ d
comparison_same c d l k e =
    let p = split_back (c.operand ++ be2 c.offset) (d.operand ++ be2 d.offset) (be2 c.operation) (be2 d.operation) refl e in
    let q = split_back c.operand d.operand (be2 c.offset) (be2 d.offset) refl p.0 in
    let offset = be2_same c.offset d.offset l.1 k.1 q.1 in
    let operation = be2_same c.operation d.operation l.2 k.2 p.1 in
    λ i. record { operand = q.0 i; offset = offset i; operation = operation i }

-- each of these is one of those
abbrev pub Within : List (List ℕ) → List (List ℕ) → Type 0
Within xs ys = (x : List ℕ) → IsIn x xs → IsIn x ys

module _ (h : Hashing) (strings : List (List ℕ)) where
  -- two of the strings that have one digest are the same, but for an escape
  pub same_string : (x y : List ℕ) → IsIn x strings → IsIn y strings → h.digest x ≡ h.digest y → (x ≡ y) ⊎ Escape h strings
  same_string x y i j e = go (bytes_eq x y) refl
    where
      go : (b : Bool) → bytes_eq x y ≡ b → (x ≡ y) ⊎ Escape h strings
      go true t = inl ((bytes_eq-Decides x y).0 t)
      go false t = inr (inl (x, y, i, j, (λ same. true≢false (sym ((bytes_eq-Decides x y).1 same) ∙ t)), e))

  inside_same : (c d : Comparison) → HoldsComparison c → HoldsComparison d → IsIn (comparison_string c) strings → IsIn (comparison_string d) strings → h.digest (comparison_string c) ≡ h.digest (comparison_string d) → (c ≡ d) ⊎ Escape h strings
  inside_same c d l k i j e = ⊎_elim (λ same. inl (comparison_same c d l k same)) inr (same_string _ _ i j e)

  -- the command and the body tell the assertion, but for an escape among the strings inside
  pub assertion_same : Lawful h → (a x : Assertion) → HoldsAssertion a → HoldsAssertion x → Within (inner a) strings → Within (inner x) strings → command_code a ≡ command_code x → body h a ≡ body h x → (a ≡ x) ⊎ Escape h strings
  assertion_same ok (pcr s d) (pcr u e) l k i j c b =
      let p = split (bank_selection s) (bank_selection u) d e (omega (arith, l.0, k.0)) b in
      inl (λ t. pcr (drop 7 (p.0 t)) (p.1 t))
  assertion_same ok (nv n c) (nv m d) l k i j _ b =
      let p = split (h.digest (comparison_string c)) (h.digest (comparison_string d)) n m (ok.sized _ ∙ sym (ok.sized _)) b in
      ⊎_elim (λ same. inl (λ t. nv (p.1 t) (same t))) inr (inside_same c d l.1 k.1 (i _ (inl refl)) (j _ (inl refl)) p.0)
  assertion_same ok (time c) (time d) l k i j _ b = ⊎_elim (λ same. inl (ap time same)) inr (inside_same c d l k (i _ (inl refl)) (j _ (inl refl)) b)
  assertion_same ok (locality n) (locality m) l k i j _ b = inl (let same : n ≡ m = cc in ap locality same)
  assertion_same ok (command n) (command m) l k i j _ b = inl (ap command (be4_same n m l k b))
  assertion_same ok presence presence l k i j c b = inl refl
  assertion_same ok password password l k i j c b = inl refl
  assertion_same ok _ _ l k i j c b = absurd (omega arith)
