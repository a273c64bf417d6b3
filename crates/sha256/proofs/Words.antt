-- Words of chunks.
use Rattle.std.proofs.Common.{◌≡◌, ℕ, zero, suc, ◌+◌, ◌*◌, ◌<◌, List, [], ◌∷◌, ◌++◌, get_or, take, drop, refl, arith}
use Rattle.std.specs.Simd.{first_chunks}
use Rattle.std.proofs.lemmas.List.{get_or-take, drop-take, drop-drop}
use Rattle.sha256.specs.Sha256.{first_word, words}
use Rattle.sha256.proofs.Window.{words_parts}

front_word : (k : ℕ) (m : List ℕ) → first_word (take (4 + k) m) ≡ first_word m
unfolding first_word
front_word k m = cc (at 0 (omega arith), at 1 (omega arith), at 2 (omega arith), at 3 (omega arith))
  where
    at : (j : ℕ) → j < 4 + k → get_or (take (4 + k) m) j 0 ≡ get_or m j 0
    at j h = get_or-take (4 + k) m j 0 h

front_words : (n : ℕ) (m : List ℕ) → words n (take (4 * n) m) ≡ words n m
unfolding words
front_words zero m = refl
front_words (suc n) m =
    let on : 4 * suc n ≡ 4 + 4 * n = omega arith in
    rw on (cc (front_word (4 * n) m, drop-take 4 (4 * n) m, front_words n (drop 4 m)))

-- Four words of four bytes each.
pub of_chunks : (chunks : List (List ℕ)) (m : List ℕ) (w0 w1 w2 w3 : ℕ) → chunks ≡ first_chunks 4 4 m → w0 ≡ first_word (get_or chunks 0 []) → w1 ≡ first_word (get_or chunks 1 []) → w2 ≡ first_word (get_or chunks 2 []) → w3 ≡ first_word (get_or chunks 3 []) → w0 ∷ w1 ∷ w2 ∷ w3 ∷ [] ≡ words 4 m
unfolding words
of_chunks chunks m w0 w1 w2 w3 e e0 e1 e2 e3 =
    rw (e0, e1, e2, e3, e) (cc (front_word 0 m, front_word 0 (drop 4 m), front_word 0 (drop 4 (drop 4 m)), front_word 0 (drop 4 (drop 4 (drop 4 m)))))

-- Four times four words of sixteen bytes each.
pub of_parts : (parts : List (List ℕ)) (m a b c d : List ℕ) → parts ≡ first_chunks 16 4 m → a ≡ words 4 (get_or parts 0 []) → b ≡ words 4 (get_or parts 1 []) → c ≡ words 4 (get_or parts 2 []) → d ≡ words 4 (get_or parts 3 []) → a ++ (b ++ (c ++ d)) ≡ words 16 m
of_parts parts m a b c d e e0 e1 e2 e3 =
    rw (e0, e1, e2, e3, e) (cc (
      front_words 4 m,
      front_words 4 (drop 16 m),
      front_words 4 (drop 16 (drop 16 m)),
      front_words 4 (drop 16 (drop 16 (drop 16 m))),
      drop-drop 16 16 m,
      drop-drop 16 32 m,
      words_parts m,
    ))
