-- The state after some blocks, and after more.
use Rattle.std.proofs.Common.{◌≡◌, ℕ, zero, suc, ◌+◌, ◌*◌, ◌≤◌, List, ◌++◌, length, take, drop, refl, ◌∙◌, mul-zero, zero-mul, mul-suc, suc-mul, zero-add, arith}
use Rattle.std.proofs.lemmas.List.{drop-drop, length-drop, take_all, take-append-le, drop-append-le}
use Rattle.blocks.specs.Blocks.{absorb}

-- One block on, in a message at hand.
past : (size i : ℕ) (m : List ℕ) → drop (size * i) (drop size m) ≡ drop (size * suc i) m
past size i m =
    let on : size + size * i ≡ size * suc i = omega (arith, mul-suc size i) in
    drop-drop (size * i) size m ∙ rw on

module _ {S : Type 0} (step : S → List ℕ → S) (size : ℕ) where
  pub absorb-none : (m : List ℕ) (s : S) → absorb step size 0 m s ≡ s
  unfolding absorb
  absorb-none m s = refl

  pub absorb-more : (i : ℕ) (m : List ℕ) (s : S) → absorb step size (suc i) m s ≡ step (absorb step size i m s) (take size (drop (size * i) m))
  unfolding absorb
  absorb-more zero m s = rw (mul-zero size)
  absorb-more (suc i) m s = absorb-more i (drop size m) (step s (take size m)) ∙ rw (past size i m)

  pub absorb_one : (block : List ℕ) (s : S) → length block ≡ size → absorb step size 1 block s ≡ step s block
  unfolding absorb
  absorb_one block s whole = rw (take_all size block (omega arith))

  absorb_add : (q n : ℕ) (m : List ℕ) (s : S) → absorb step size (q + n) m s ≡ absorb step size n (drop (q * size) m) (absorb step size q m s)
  unfolding absorb
  absorb_add zero n m s = rw (zero-add, zero-mul)
  absorb_add (suc q) n m s =
      let more : suc q + n ≡ suc (q + n) = omega arith in
      let on : size + q * size ≡ suc q * size = omega (arith, suc-mul q size) in
      rw more (absorb_add q n (drop size m) (step s (take size m)) ∙ rw (drop-drop (q * size) size m, on))

  -- What stands behind the blocks does not matter.
  absorb-front : (q : ℕ) (a b : List ℕ) (s : S) → q * size ≤ length a → absorb step size q (a ++ b) s ≡ absorb step size q a s
  unfolding absorb
  absorb-front zero a b s le = refl
  absorb-front (suc q) a b s le =
      let one : size ≤ length a = omega (arith, suc-mul q size) in
      let rest : q * size ≤ length (drop size a) = simp length-drop (omega (arith, suc-mul q size)) in
      rw (take-append-le size a b one, drop-append-le size a b one) (absorb-front q (drop size a) b (step s (take size a)) rest)

  -- A message m and its padding p in two parts: the first q blocks, and n more of the rest and p.
  pub in_two : (q n : ℕ) (m p : List ℕ) (s : S) → q * size ≤ length m → absorb step size n (drop (q * size) m ++ p) (absorb step size q m s) ≡ absorb step size (q + n) (m ++ p) s
  in_two q n m p s le =
      cc (absorb_add q n (m ++ p) s, absorb-front q m p s le, drop-append-le (q * size) m p le)

  -- What holds of each state that a step makes, and of the first, holds of the last.
  pub absorb-keeps : (P : S → Type 0) → ((s : S) (block : List ℕ) → P (step s block)) → (n : ℕ) (m : List ℕ) (s : S) → P s → P (absorb step size n m s)
  unfolding absorb
  absorb-keeps P each zero m s holds = holds
  absorb-keeps P each (suc n) m s holds =
      absorb-keeps P each n (drop size m) (step s (take size m)) (each s (take size m))
