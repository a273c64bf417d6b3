-- The pieces of a report, joined.
use Rattle.std.proofs.Common.{◌≡◌, ℕ, List, ◌++◌, ◌∙◌, append_assoc}

-- one piece more behind what is written
pub piece_more : (p x : List ℕ) {before after y : List ℕ} → after ≡ before ++ y → before ≡ p → y ≡ x → after ≡ p ++ x
piece_more p x a b e = a ∙ (λ i. b i ++ e i)

pub six_pieces : (p a b c d e f : List ℕ) → (((((p ++ a) ++ b) ++ c) ++ d) ++ e) ++ f ≡ p ++ (a ++ b ++ c ++ d ++ e ++ f)
six_pieces p a b c d e f = simp append_assoc
