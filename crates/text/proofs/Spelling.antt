-- Digit pairs written into a buffer from a place on.
use Rattle.std.proofs.Common.{◌≡◌, ℕ, ◌+◌, ◌-◌, ◌*◌, ◌/◌, ◌%◌, ◌<◌, ◌≤◌, List, [], ◌∷◌, ◌++◌, Option, Some, None, length, get_or, take, drop, set, sym, refl, ap, ◌∙◌, add-zero, arith}
use Rattle.std.proofs.lemmas.List.{take_more, take_more_set, drop-set-lt, append_assoc, append-nil, length-set, take_all}
use Rattle.std.specs.Option.{IsSome}
use Rattle.text.specs.Pairs.{hex_digit, pairs}
use Rattle.text.specs.Writing.{Placed, Wrote}
use Rattle.text.proofs.Writes.{pairs-length, pairs-append}

-- the first i bytes are written as pairs from `at` on, and nothing behind `end` was touched
pub record Spelled (old : List ℕ) (at : ℕ) (bytes : List ℕ) (i end : ℕ) (out : List ℕ) : Type 0 where
  pub front : take (at + 2 * i) out ≡ take at old ++ pairs (take i bytes)
  pub back : drop end out ≡ drop end old
  pub size : length out ≡ length old

pub spelled_none : (old : List ℕ) (at : ℕ) (bytes : List ℕ) (end : ℕ) → Spelled old at bytes 0 end old
spelled_none old at bytes end = record { front = ap (λ n. take n old) (add-zero at) ∙ sym (append-nil (take at old)); back = refl; size = refl }

-- two bytes written one behind the other
take-two : (out : List ℕ) (p x y : ℕ) → p + 1 < length out → take (p + 1 + 1) (set (set out p x) (p + 1) y) ≡ take p out ++ x ∷ y ∷ []
take-two out p x y within =
    take_more_set (set out p x) (p + 1) y (simp length-set (omega arith)) ∙ ap (λ l. l ++ y ∷ []) (take_more_set out p x (omega arith)) ∙ append_assoc (take p out) (x ∷ []) (y ∷ [])

module _ (old : List ℕ) (at : ℕ) (bytes : List ℕ) (i end : ℕ) (out : List ℕ) (within : i < length bytes) (is : at + 2 * length bytes ≡ end) (room : end ≤ length old) (s : Spelled old at bytes i end out) where
  pub spelled_more : Spelled old at bytes (i + 1) end (set (set out (at + 2 * i) (hex_digit (get_or bytes i 0 / 16))) (at + 2 * i + 1) (hex_digit (get_or bytes i 0 % 16)))
  spelled_more =
      let b = get_or bytes i 0 in
      let p = at + 2 * i in
      let x = hex_digit (b / 16) in
      let y = hex_digit (b % 16) in
      let two : at + 2 * (i + 1) ≡ p + 1 + 1 = omega arith in
      let long = s.size in
      record {
        front = ap (λ n. take n (set (set out p x) (p + 1) y)) two ∙ take-two out p x y (omega arith) ∙ ap (λ l. l ++ x ∷ y ∷ []) s.front ∙ append_assoc (take at old) (pairs (take i bytes)) (x ∷ y ∷ []) ∙ ap (λ l. take at old ++ l) (sym (pairs-append (take i bytes) (b ∷ []))) ∙ ap (λ l. take at old ++ pairs l) (sym (take_more bytes i 0 within));
        back = drop-set-lt end (set out p x) (p + 1) y (omega arith) ∙ drop-set-lt end out p x (omega arith) ∙ s.back;
        size = length-set (set out p x) (p + 1) y ∙ length-set out p x ∙ long;
      }

pub spelled_all : (old : List ℕ) (at : ℕ) (bytes : List ℕ) (i end : ℕ) (out : List ℕ) → length bytes ≤ i → i ≤ length bytes → at + 2 * length bytes ≡ end → end ≤ length old → Spelled old at bytes i end out → Placed old at (pairs bytes) end out
spelled_all old at bytes i end out past most is room s =
    let here : i ≡ length bytes = omega arith in
    record {
      ends = omega (arith, pairs-length bytes);
      within = room;
      front = ap (λ n. take n out) (sym is ∙ ap (λ n. at + 2 * n) (sym here)) ∙ s.front ∙ ap (λ l. take at old ++ pairs l) (take_all i bytes past);
      back = s.back;
    }

-- what fits behind nothing is written, and stands in front
pub wrote_some : (out more : List ℕ) (r : Option ℕ) (out' : List ℕ) → length more ≤ length out → Wrote out 0 more r out' → IsSome r
wrote_some out more None out' fits w = absurd (let over = w.over in omega arith)
wrote_some out more (Some n) out' fits w = refl

pub wrote_front : (out more : List ℕ) (r : Option ℕ) (n : ℕ) (out' : List ℕ) → Wrote out 0 more r out' → r ≡ Some n → take n out' ≡ more
wrote_front out more r n out' w e = let w' : Wrote out 0 more (Some n) out' = rw e at w in w'.front

-- pairs that do not fit
pub pairs-over : (room at n : ℕ) → at ≤ room → (room - at) / 2 < n → room < at + 2 * n
pairs-over room at n a h = omega arith
