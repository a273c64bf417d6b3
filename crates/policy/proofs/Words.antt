-- Words told apart byte by byte.
use Rattle.std.proofs.Common.{◌≡◌, ℕ, ◌+◌, ◌<◌, ◌≤◌, Bool, true, false, List, [], ◌∷◌, length, get_or, drop, refl, ap, ◌∙◌, arith}
use Rattle.std.specs.Str.{bytes_eq}
use Rattle.std.proofs.lemmas.Slice.Eq.{bytes_eq-Decides}
use Rattle.std.proofs.lemmas.List.{drop_all, drop_more, length-drop}

-- from place i on the word has these bytes, and then it ends
abbrev pub Spells : List ℕ → ℕ → List ℕ → Type 0
Spells w i [] = length w ≡ i
Spells w i (b ∷ bs) = (get_or w i 0 ≡ b) × Spells w (i + 1) bs

within : (w : List ℕ) (i : ℕ) (bs : List ℕ) → Spells w i bs → i ≤ length w
within w i [] s = omega arith
within w i (b ∷ bs) s = omega (arith, within w (i + 1) bs s.1)

spelled_from : (w : List ℕ) (i : ℕ) (bs : List ℕ) → Spells w i bs → drop i w ≡ bs
spelled_from w i [] s = drop_all i w (omega arith)
spelled_from w i (b ∷ bs) s = drop_more w i 0 (omega (arith, within w (i + 1) bs s.1)) ∙ (λ k. s.0 k ∷ spelled_from w (i + 1) bs s.1 k)

-- a word that has the bytes of another is that word
pub spelled : (w v : List ℕ) → Spells w 0 v → w ≡ v
spelled w v s = spelled_from w 0 v s

spells_from : (w : List ℕ) (i : ℕ) (bs : List ℕ) → i ≤ length w → drop i w ≡ bs → Spells w i bs
spells_from w i [] l e = omega (arith, length-drop i w, ap length e)
spells_from w i (b ∷ bs) l e =
    let more : i < length w = omega (arith, length-drop i w, ap length e) in
    let both = drop_more w i 0 more in
    let rest : drop (i + 1) w ≡ bs = cc in
    (cc, spells_from w (i + 1) bs (omega arith) rest)

-- a word that has not is another
pub misspelled : (w v : List ℕ) → (Spells w 0 v → ⊥) → bytes_eq w v ≡ false
misspelled w v n = go (bytes_eq w v) refl
  where
    go : (r : Bool) → bytes_eq w v ≡ r → r ≡ false
    go true e = absurd (n (spells_from w 0 v (omega arith) ((bytes_eq-Decides w v).0 e)))
    go false e = refl
