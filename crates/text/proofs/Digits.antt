-- Laws of reading decimal digits from the left.
use Rattle.std.proofs.Common.{◌≡◌, ℕ, ◌+◌, ◌<◌, ◌≤◌, false, ◌&&◌, leb, List, length, get_or, drop, Some, None, sym, ◌∙◌}
use Rattle.std.proofs.lemmas.List.{at_drop_more, at_drop_all}
use Rattle.std.proofs.lemmas.Bool.{le-leb, lt-leb, cond-true, cond-false, and_from, and_left, and_right}
use Rattle.text.specs.Numbers.{number_limit, is_digit, shifted, digits_from}

-- the digits before i make n
pub record SoFar (s : List ℕ) (i n : ℕ) : Type 0 where
  pub small : n ≤ number_limit
  pub rest : digits_from n (drop i s) ≡ digits_from 0 s

module _ (s : List ℕ) (i n : ℕ) (within : i < length s) (h : SoFar s i n) where
  digits_bad : (is_digit (get_or s i 0) && leb (shifted n (get_or s i 0)) number_limit) ≡ false → None ≡ digits_from 0 s
  digits_bad e = sym (sym h.rest ∙ at_drop_more (digits_from n) s i 0 within ∙ cond-false _ _ _ e)

  pub digits_low : get_or s i 0 < 48 → None ≡ digits_from 0 s
  digits_low l = digits_bad (and_left _ _ (and_left _ _ (lt-leb 48 (get_or s i 0) l)))

  pub digits_high : 57 < get_or s i 0 → None ≡ digits_from 0 s
  digits_high l = digits_bad (and_left _ _ (and_right _ _ (lt-leb (get_or s i 0) 57 l)))

  pub digits_over : number_limit < shifted n (get_or s i 0) → None ≡ digits_from 0 s
  digits_over l = digits_bad (and_right _ _ (lt-leb _ number_limit l))

  pub digits_more : 48 ≤ get_or s i 0 → get_or s i 0 ≤ 57 → shifted n (get_or s i 0) ≤ number_limit → SoFar s (i + 1) (shifted n (get_or s i 0))
  digits_more a b l = record {
    small = l;
    rest = sym (cond-true _ _ _ (and_from _ _ (and_from _ _ (le-leb 48 _ a) (le-leb _ 57 b)) (le-leb _ number_limit l))) ∙ sym (at_drop_more (digits_from n) s i 0 within) ∙ h.rest;
  }

pub digits_all : (s : List ℕ) (i n : ℕ) → length s ≤ i → SoFar s i n → Some n ≡ digits_from 0 s
digits_all s i n past h = sym (at_drop_all (digits_from n) s i past) ∙ h.rest
