-- Rounds one after another.
use Rattle.std.proofs.Common.{◌≡◌, ℕ, ◌+◌, ◌%◌, ◌^◌, ◌≤◌, List, [], ◌∷◌, ◌++◌, length, get_or, take, drop, sym, refl, ◌∙◌, arith, take-add}
use lib.Lanes.{zip2}
use Rattle.std.proofs.lemmas.List.{length-take-le, take_all}
use Rattle.sha256.specs.Functions.{Σ1, Ch}
use Rattle.sha256.specs.Sha256.{T1, round, rounds}
use Rattle.sha256.proofs.Lanes.{by_four}
use Rattle.sha256.proofs.Sums.{last_two}

-- A round needs no more of its constant and its word than their sum.
round_sum : (v : List ℕ) (k w : ℕ) → round v k w ≡ round v 0 ((k + w) % 2 ^ 32)
unfolding round T1
round_sum v k w = cc (last_two (get_or v 7 0 + Σ1 (get_or v 4 0) + Ch (get_or v 4 0) (get_or v 5 0) (get_or v 6 0)) k w)

abbrev plus : List ℕ → List ℕ → List ℕ
plus k w = zip2 (λ (x y : ℕ). (x + y) % 2 ^ 32) k w

abbrev FourRounds : List ℕ → List ℕ → Type 0
FourRounds k w =
    (v v1 v2 v3 r : List ℕ) → v1 ≡ round v 0 (get_or (plus k w) 0 0) → v2 ≡ round v1 0 (get_or (plus k w) 1 0) → v3 ≡ round v2 0 (get_or (plus k w) 2 0) → r ≡ round v3 0 (get_or (plus k w) 3 0) → r ≡ rounds k w v

pub four-rounds : (k w : List ℕ) → length k ≡ 4 → length w ≡ 4 → FourRounds k w
unfolding rounds
four-rounds k w k-four w-four =
    by_four (λ k. FourRounds k w)
    (λ k0 k1 k2 k3. by_four (FourRounds (k0 ∷ k1 ∷ k2 ∷ k3 ∷ []))
    (λ w0 w1 w2 w3 v v1 v2 v3 r e1 e2 e3 e4. cc (round_sum v k0 w0, round_sum v1 k1 w1, round_sum v2 k2 w2, round_sum v3 k3 w3)) w w-four) k k-four

rounds-append : (k1 w1 k2 w2 v : List ℕ) → length k1 ≡ length w1 → rounds (k1 ++ k2) (w1 ++ w2) v ≡ rounds k2 w2 (rounds k1 w1 v)
unfolding rounds
rounds-append [] [] k2 w2 v e = refl
rounds-append [] (w ∷ w1) k2 w2 v e = absurd (omega arith)
rounds-append (k ∷ k1) [] k2 w2 v e = absurd (omega arith)
rounds-append (k ∷ k1) (w ∷ w1) k2 w2 v e = rounds-append k1 w1 k2 w2 (round v k w) (omega arith)

pub rounds-more : (ks ws v : List ℕ) (n : ℕ) → n ≤ length ks → n ≤ length ws → rounds (take (n + 4) ks) (take (n + 4) ws) v ≡ rounds (take 4 (drop n ks)) (take 4 (drop n ws)) (rounds (take n ks) (take n ws) v)
rounds-more ks ws v n in-ks in-ws =
    let same : length (take n ks) ≡ length (take n ws) = length-take-le n ks in-ks ∙ sym (length-take-le n ws in-ws) in
    rw (take-add n 4 ks, take-add n 4 ws) (rounds-append (take n ks) (take n ws) (take 4 (drop n ks)) (take 4 (drop n ws)) v same)

-- Four rounds more, with the constants k and the words w of the place where they stand.
pub rounds-on : (ks ws start v r k w : List ℕ) (n m : ℕ) → m ≡ n + 4 → n ≤ length ks → n ≤ length ws → k ≡ take 4 (drop n ks) → take 4 (drop n ws) ≡ w → v ≡ rounds (take n ks) (take n ws) start → r ≡ rounds k w v → r ≡ rounds (take m ks) (take m ws) start
rounds-on ks ws start v r k w n m em in-ks in-ws ek ew ev er = rw em (cc (rounds-more ks ws start n in-ks in-ws))

pub rounds_all : (ks ws v r : List ℕ) (n : ℕ) → length ks ≤ n → length ws ≤ n → r ≡ rounds (take n ks) (take n ws) v → r ≡ rounds ks ws v
rounds_all ks ws v r n all-ks all-ws e = rw (take_all n ks all-ks, take_all n ws all-ws) at e
