-- Laws of digit pairs.
use Rattle.std.proofs.Common.{◌≡◌, ℕ, ◌+◌, ◌*◌, ◌/◌, ◌%◌, ◌<◌, ◌≤◌, List, [], ◌∷◌, ◌++◌, length, get_or, take, sym, refl, ap, ◌∙◌, arith}
use Rattle.std.proofs.lemmas.List.{append_assoc, length-append, length-take-le, take_more}
use Rattle.text.specs.Pairs.{hex_digit, pairs}

pub pairs-length : (bs : List ℕ) → length (pairs bs) ≡ 2 * length bs
pairs-length [] = refl
pairs-length (b ∷ bs) = omega (arith, pairs-length bs)

pub pairs-append : (xs ys : List ℕ) → pairs (xs ++ ys) ≡ pairs xs ++ pairs ys
pairs-append [] ys = refl
pairs-append (x ∷ xs) ys = ap (λ l. hex_digit (x / 16) ∷ hex_digit (x % 16) ∷ l) (pairs-append xs ys)

-- the pairs of one byte more
pub pairs_more : (old bytes : List ℕ) (i : ℕ) → i < length bytes → (old ++ pairs (take i bytes)) ++ hex_digit (get_or bytes i 0 / 16) ∷ hex_digit (get_or bytes i 0 % 16) ∷ [] ≡ old ++ pairs (take (i + 1) bytes)
pairs_more old bytes i h =
    let b = get_or bytes i 0 in
    append_assoc old (pairs (take i bytes)) (pairs (b ∷ [])) ∙ ap (λ l. old ++ l) (sym (pairs-append (take i bytes) (b ∷ [])) ∙ ap pairs (sym (take_more bytes i 0 h)))

-- how long the pairs of the first bytes are behind others
pub pairs_so_far : (old bytes : List ℕ) (i : ℕ) → i ≤ length bytes → length (old ++ pairs (take i bytes)) ≡ length old + 2 * i
pairs_so_far old bytes i h = omega (arith, length-append old (pairs (take i bytes)), pairs-length (take i bytes), length-take-le i bytes h)
