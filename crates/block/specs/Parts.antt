-- The parts of bytes.
use Rattle.std.proofs.Common.{◌≡◌, ℕ, ◌+◌, ◌<◌, ◌≤◌, ◌⊎◌, List, length, get_or, drop, sym, ◌∙◌, subst, inl, inr, arith, lit<}
use Rattle.std.proofs.lemmas.List.{get_or-drop, get_or-take, get_or_past, length-drop, length-take, length-take-le}
use Rattle.std.proofs.lemmas.Bool.{cases_lt}
use Rattle.tables.proofs.Bytes.{Small}
use Rattle.block.specs.Layout.{part}

pub part-long : (bs : List ℕ) (at n : ℕ) → at + n ≤ length bs → length (part bs at n) ≡ n
part-long bs at n h = length-take-le n (drop at bs) (omega (arith, length-drop at bs))

pub part_small : (bs : List ℕ) (at n : ℕ) → Small bs → Small (part bs at n)
part_small bs at n h k = go (cases_lt k n)
  where
    go : (k < n) ⊎ (n ≤ k) → get_or (part bs at n) k 0 < 256
    go (inl l) = subst (λ b. b < 256) (sym (get_or-take n (drop at bs) k 0 l ∙ get_or-drop at bs k 0)) (h (at + k))
    go (inr l) = subst (λ b. b < 256) (sym (get_or_past (part bs at n) k 0 (omega (arith, length-take n (drop at bs))))) (lit< tt)
