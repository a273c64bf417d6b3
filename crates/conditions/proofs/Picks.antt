-- Laws of the PCRs that a selection picks, joined bit by bit.
use Rattle.std.proofs.Common.{◌≡◌, ℕ, ◌+◌, ◌*◌, true, false, List, [], ◌∷◌, ◌++◌, get_or, sym, ap, ◌∙◌, arith}
use Rattle.std.specs.List.{range_with_len, flat_map}
use Rattle.std.proofs.lemmas.List.FromFn.{map-range_with_len_more}
use Rattle.std.proofs.lemmas.List.{append-nil, flat_map_more, map-id}
use Rattle.std.proofs.lemmas.Bool.{cond-true, cond-false}
use Rattle.conditions.specs.Picking.{bit, byte_bits, picked_at, picked_in}

counting_more : (n : ℕ) → range_with_len 0 (n + 1) ≡ range_with_len 0 n ++ n ∷ []
counting_more n = sym (map-id (range_with_len 0 (n + 1))) ∙ map-range_with_len_more (λ k. k) 0 n n (omega arith) ∙ ap (λ l. l ++ n ∷ []) (map-id (range_with_len 0 n))

join_more : (f : ℕ → List ℕ) (front : List ℕ) (n : ℕ) → (front ++ flat_map f (range_with_len 0 n)) ++ f n ≡ front ++ flat_map f (range_with_len 0 (n + 1))
join_more f front n = flat_map_more f front (range_with_len 0 n) n ∙ ap (λ l. front ++ flat_map f l) (sym (counting_more n))

module _ (selection : List ℕ) (pcrs : List (List ℕ)) where
  -- the PCRs picked before bit i of byte j
  abbrev pub before : ℕ → ℕ → List ℕ
  before j i = flat_map (picked_in selection pcrs) (range_with_len 0 j) ++ flat_map (picked_at selection pcrs j) (range_with_len 0 i)

  -- a bit that is set, one that is not, and all bits of a byte
  pub picks : (j i : ℕ) → bit (get_or selection j 0) i ≡ true → before j i ++ get_or pcrs (byte_bits * j + i) [] ≡ before j (i + 1)
  picks j i e = ap (λ l. before j i ++ l) (sym (cond-true _ _ _ e)) ∙ join_more (picked_at selection pcrs j) (flat_map (picked_in selection pcrs) (range_with_len 0 j)) i

  pub skips : (j i : ℕ) → bit (get_or selection j 0) i ≡ false → before j i ≡ before j (i + 1)
  skips j i e = sym (append-nil (before j i)) ∙ ap (λ l. before j i ++ l) (sym (cond-false _ (get_or pcrs (byte_bits * j + i) []) _ e)) ∙ join_more (picked_at selection pcrs j) (flat_map (picked_in selection pcrs) (range_with_len 0 j)) i

  pub byte_done : (j i : ℕ) → i ≡ byte_bits → before j i ≡ flat_map (picked_in selection pcrs) (range_with_len 0 (j + 1))
  byte_done j i e = ap (before j) e ∙ join_more (picked_in selection pcrs) [] j
