-- Bytes are equal where no bits differ.
use Rattle.std.proofs.Common.{◌≡◌, ℕ, ◌&&◌, List, [], ◌∷◌, length, nat_eq, bit_or, bit_xor, sym, ap, ◌∙◌, arith}
use Rattle.std.specs.List.{fold, zip}
use Rattle.std.specs.Str.{bytes_eq}
use Rattle.std.proofs.lemmas.Bool.Decides.{Decides-eqb, Decides-like, Decides-and, same_from_decides}
use Rattle.std.proofs.lemmas.Nat.{le_or_l, le_or_r, and_le_l, and_le_r}
use Rattle.std.specs.Int.Bits.{xor_self, xor_add_and}
use Rattle.std.proofs.Math.Bool.{and_assoc, and-true}

or_zero : (a b : ℕ) → nat_eq (bit_or a b) 0 ≡ (nat_eq a 0 && nat_eq b 0)
or_zero a b = same_from_decides _ _ (Decides-eqb (bit_or a b) 0) (Decides-like _ (λ h. (λ i. bit_or (h.0 i) (h.1 i))) (λ e. (omega (arith, le_or_l a b), omega (arith, le_or_r a b))) (Decides-and _ _ (Decides-eqb a 0) (Decides-eqb b 0)))

xor_zero : (a b : ℕ) → nat_eq (bit_xor a b) 0 ≡ nat_eq a b
xor_zero a b = same_from_decides _ _ (Decides-eqb (bit_xor a b) 0) (Decides-like _ (λ e. ap (λ x. bit_xor x b) e ∙ xor_self b) (λ e. omega (arith, xor_add_and a b, and_le_l a b, and_le_r a b)) (Decides-eqb a b))

abbrev step : ℕ → ℕ × ℕ → ℕ
step seen p = bit_or seen (bit_xor p.0 p.1)

same_from : (seen : ℕ) (a b : List ℕ) → length a ≡ length b → nat_eq (fold step seen (zip a b)) 0 ≡ (nat_eq seen 0 && bytes_eq a b)
same_from seen [] [] e = sym (and-true (nat_eq seen 0))
same_from seen [] (y ∷ b) e = absurd (omega arith)
same_from seen (x ∷ a) [] e = absurd (omega arith)
same_from seen (x ∷ a) (y ∷ b) e =
    same_from (step seen (x, y)) a b (omega arith)
    ∙ ap (λ t. t && bytes_eq a b) (or_zero seen (bit_xor x y) ∙ ap (λ t. nat_eq seen 0 && t) (xor_zero x y))
    ∙ and_assoc (nat_eq seen 0) (nat_eq x y) (bytes_eq a b)

pub same_bytes : (a b : List ℕ) → length a ≡ length b → nat_eq (fold (λ seen p. bit_or seen (bit_xor p.0 p.1)) 0 (zip a b)) 0 ≡ bytes_eq a b
same_bytes a b e = same_from 0 a b e
