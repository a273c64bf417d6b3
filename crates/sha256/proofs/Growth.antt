-- The message schedule, four words at a time.
use Rattle.std.proofs.Common.{◌≡◌, ℕ, ◌+◌, ◌%◌, ◌^◌, List, [], ◌∷◌, ◌++◌, map, length, drop, refl}
use lib.Lanes.{zip2, pick_l}
use Rattle.sha256.specs.Functions.{σ0, σ1, ROTR, SHR}
use Rattle.sha256.specs.Sha256.{schedule_word, extended}
use Rattle.sha256.proofs.Lanes.{by_four}
use Rattle.sha256.proofs.Sums.{turned, first_of_two, second_of_two}

σ1_zero : σ1 0 ≡ 0
unfolding σ1 ROTR SHR
σ1_zero = refl

abbrev plus : List ℕ → List ℕ → List ℕ
plus k w = zip2 (λ (x y : ℕ). (x + y) % 2 ^ 32) k w

abbrev zeros : List ℕ
zeros = 0 ∷ 0 ∷ 0 ∷ 0 ∷ []

abbrev two : (a c d s u : List ℕ) → List ℕ
two a c d s u = plus (plus (plus a s) (pick_l 0 (c ++ d) (1 ∷ 2 ∷ 3 ∷ 4 ∷ []))) u

abbrev NextFour : List ℕ → List ℕ → List ℕ → List ℕ → Type 0
NextFour a b c d =
    (s u v : List ℕ) → s ≡ map σ0 (pick_l 0 (a ++ b) (1 ∷ 2 ∷ 3 ∷ 4 ∷ [])) → u ≡ map σ1 (pick_l 0 (d ++ zeros) (2 ∷ 3 ∷ 4 ∷ 5 ∷ [])) → v ≡ map σ1 (pick_l 0 (zeros ++ two a c d s u) (0 ∷ 1 ∷ 4 ∷ 5 ∷ [])) → plus (two a c d s u) v ≡ drop 16 (extended 4 (a ++ (b ++ (c ++ d))))

-- The same, of numbers.
numbers : (a0 a1 a2 a3 b0 b1 b2 b3 c0 c1 c2 c3 d0 d1 d2 d3 : ℕ) → NextFour (a0 ∷ a1 ∷ a2 ∷ a3 ∷ []) (b0 ∷ b1 ∷ b2 ∷ b3 ∷ []) (c0 ∷ c1 ∷ c2 ∷ c3 ∷ []) (d0 ∷ d1 ∷ d2 ∷ d3 ∷ [])
unfolding extended schedule_word
numbers a0 a1 a2 a3 b0 b1 b2 b3 c0 c1 c2 c3 d0 d1 d2 d3 s u v es eu ev =
    let n0 : ℕ = (σ1 d2 + c1 + σ0 a1 + a0) % 2 ^ 32 in
    let n1 : ℕ = (σ1 d3 + c2 + σ0 a2 + a1) % 2 ^ 32 in
    rw (ev, es, eu) (cc (
      σ1_zero,
      turned a0 (σ0 a1) c1 (σ1 d2),
      turned a1 (σ0 a2) c2 (σ1 d3),
      first_of_two a0 (σ0 a1) c1 (σ1 d2),
      first_of_two a1 (σ0 a2) c2 (σ1 d3),
      second_of_two a2 (σ0 a3) c3 (σ1 n0),
      second_of_two a3 (σ0 b0) d0 (σ1 n1),
    ))

pub next_four : (a b c d : List ℕ) → length a ≡ 4 → length b ≡ 4 → length c ≡ 4 → length d ≡ 4 → NextFour a b c d
next_four a b c d la lb lc ld =
    by_four (λ a. NextFour a b c d)
    (λ a0 a1 a2 a3. by_four (λ b. NextFour (a0 ∷ a1 ∷ a2 ∷ a3 ∷ []) b c d)
    (λ b0 b1 b2 b3. by_four (λ c. NextFour (a0 ∷ a1 ∷ a2 ∷ a3 ∷ []) (b0 ∷ b1 ∷ b2 ∷ b3 ∷ []) c d)
    (λ c0 c1 c2 c3. by_four (NextFour (a0 ∷ a1 ∷ a2 ∷ a3 ∷ []) (b0 ∷ b1 ∷ b2 ∷ b3 ∷ []) (c0 ∷ c1 ∷ c2 ∷ c3 ∷ []))
    (numbers a0 a1 a2 a3 b0 b1 b2 b3 c0 c1 c2 c3) d ld) c lc) b lb) a la
