-- Lists of four: the lanes of a vector.
use Rattle.std.proofs.Common.{◌≡◌, ℕ, ◌+◌, ◌<◌, ◌≤◌, List, [], ◌∷◌, length, get_or, take, drop, refl, ◌∙◌, add-zero, arith, lit<}
use Rattle.std.proofs.lemmas.List.{length-take, length-drop, get_or-take, get_or-drop}

pub four : (x : List ℕ) → length x ≡ 4 → x ≡ get_or x 0 0 ∷ get_or x 1 0 ∷ get_or x 2 0 ∷ get_or x 3 0 ∷ []
four [] e = absurd (omega arith)
four (a ∷ []) e = absurd (omega arith)
four (a ∷ b ∷ []) e = absurd (omega arith)
four (a ∷ b ∷ c ∷ []) e = absurd (omega arith)
four (a ∷ b ∷ c ∷ d ∷ []) e = refl
four (a ∷ b ∷ c ∷ d ∷ f ∷ xs) e = absurd (omega arith)

pub by_four : (P : List ℕ → Type 0) → ((a b c d : ℕ) → P (a ∷ b ∷ c ∷ d ∷ [])) → (x : List ℕ) → length x ≡ 4 → P x
by_four P each x e = rw (four x e) (each (get_or x 0 0) (get_or x 1 0) (get_or x 2 0) (get_or x 3 0))

pub four_at : (xs : List ℕ) (t : ℕ) → t + 4 ≤ length xs → take 4 (drop t xs) ≡ get_or xs t 0 ∷ get_or xs (t + 1) 0 ∷ get_or xs (t + 2) 0 ∷ get_or xs (t + 3) 0 ∷ []
four_at xs t le =
    let long : length (take 4 (drop t xs)) ≡ 4 = simp (length-take, length-drop) (omega arith) in
    cc (
      four (take 4 (drop t xs)) long,
      at 0 (lit< tt),
      at 1 (lit< tt),
      at 2 (lit< tt),
      at 3 (lit< tt),
      add-zero t,
    )
  where
    at : (j : ℕ) → j < 4 → get_or (take 4 (drop t xs)) j 0 ≡ get_or xs (t + j) 0
    at j h = get_or-take 4 (drop t xs) j 0 h ∙ get_or-drop t xs j 0
