-- Laws of the numbers that byte strings stand for.
use Rattle.std.proofs.Common.{◌≡◌, ℕ, suc, ◌+◌, ◌-◌, ◌*◌, ◌^◌, ◌<◌, Bool, true, false, cond, not, ltb, List, [], ◌∷◌, ◌++◌, length, get_or, take, drop, Some, Option, ℤ, pos, negsuc, sym, refl, ap, ◌∙◌, subst, ⊎_elim, mul-le-mul_right, mul_assoc, one-mul, arith, w8, Fits}
use native.Mathlib.Nat.{pow-succ'}
use lib.Signed.{lt_z}
use mathlib.Core.Bool.{beq}
use Rattle.std.proofs.ByRecursion.{All-drop, All-from_get_or}
use Rattle.std.specs.Cmp.Lexicographic.{slice_partial_cmp}
use Rattle.std.specs.Ordering.{nat_cmp, partial_ordering_then, is_some_and, is_lt, is_le, is_gt, is_ge}
use Rattle.std.specs.declared.cmp.Ordering.{Ordering}
use Rattle.std.specs.declared.cmp.Ordering.TheVariants.{Less, Equal, Greater}
use Rattle.std.proofs.lemmas.List.{drop_more, length-drop, take-append-drop}
use Rattle.std.proofs.lemmas.Bool.{cond-true, cond-false, cases_lt, lt-ltb, le-ltb, eq-eqb, ne_eqb}
use Rattle.std.proofs.lemmas.Bool.Decides.{nat_tests}
use Rattle.interfaces.specs.Checks.{Bytes}
use Rattle.conditions.specs.Comparing.{unsigned_from, unsigned, negative, signed}

pub fit_bytes : (bs : List ℕ) → ((i : ℕ) → Fits w8 (get_or bs i 0)) → Bytes bs
fit_bytes bs h = All-from_get_or (λ b. b < 256) bs 0 (λ i _. omega (arith, (h i).fits))

from_append : (n : ℕ) (xs ys : List ℕ) → unsigned_from n (xs ++ ys) ≡ unsigned_from (unsigned_from n xs) ys
from_append n [] ys = refl
from_append n (x ∷ xs) ys = from_append (n * 256 + x) xs ys

-- the digits in front decide
less_from : (m n : ℕ) (xs ys : List ℕ) → length xs ≡ length ys → Bytes xs → Bytes ys → m < n → unsigned_from m xs < unsigned_from n ys
less_from m n [] [] e p q h = h
less_from m n [] (y ∷ ys) e p q h = absurd (omega arith)
less_from m n (x ∷ xs) [] e p q h = absurd (omega arith)
less_from m n (x ∷ xs) (y ∷ ys) e p q h = less_from (m * 256 + x) (n * 256 + y) xs ys (omega arith) p.1 q.1 (omega (arith, p.0, q.0))

split_at : (bs : List ℕ) (i : ℕ) → i < length bs → unsigned bs ≡ unsigned_from (unsigned (take i bs) * 256 + get_or bs i 0) (drop (i + 1) bs)
split_at bs i h = ap unsigned (sym (take-append-drop i bs)) ∙ from_append 0 (take i bs) (drop i bs) ∙ ap (unsigned_from (unsigned (take i bs))) (drop_more bs i 0 h)

-- the first byte that differs decides
pub first_decides : (a b : List ℕ) (i : ℕ) → length a ≡ length b → Bytes a → Bytes b → i < length a → take i a ≡ take i b → get_or a i 0 < get_or b i 0 → unsigned a < unsigned b
first_decides a b i e p q h same less =
    let front = ap unsigned same in
    let rest = less_from (unsigned (take i a) * 256 + get_or a i 0) (unsigned (take i b) * 256 + get_or b i 0) (drop (i + 1) a) (drop (i + 1) b) (omega (arith, length-drop (i + 1) a, length-drop (i + 1) b)) (All-drop (λ x. x < 256) (i + 1) a p) (All-drop (λ x. x < 256) (i + 1) b q) (omega arith) in
    omega (arith, split_at a i h, split_at b i (omega arith), rest)

nat_cmp-less : (m n : ℕ) → m < n → nat_cmp m n ≡ Less
nat_cmp-less m n h = cond-true _ _ _ (lt-ltb m n h)

nat_cmp-greater : (m n : ℕ) → n < m → nat_cmp m n ≡ Greater
nat_cmp-greater m n h = cond-false _ _ _ (le-ltb m n (omega arith)) ∙ cond-false _ _ _ (ne_eqb m n (λ e. omega arith))

nat_cmp-same : (m n : ℕ) → m ≡ n → nat_cmp m n ≡ Equal
nat_cmp-same m n e = cond-false _ _ _ (le-ltb m n (omega arith)) ∙ cond-true _ _ _ (eq-eqb m n e)

-- how the code orders byte strings
abbrev in_order : List ℕ → List ℕ → Option Ordering
in_order a b = slice_partial_cmp (λ x y. Some (nat_cmp x y)) a b

-- that is the order of the numbers that they make behind the digits n
abbrev InOrder : ℕ → List ℕ → List ℕ → Type 0
InOrder n xs ys = in_order xs ys ≡ Some (nat_cmp (unsigned_from n xs) (unsigned_from n ys))

-- and so it does in that order
order_from : (n : ℕ) (xs ys : List ℕ) → length xs ≡ length ys → Bytes xs → Bytes ys → InOrder n xs ys
order_from n [] [] e p q = ap Some (sym (nat_cmp-same n n refl))
order_from n [] (y ∷ ys) e p q = absurd (omega arith)
order_from n (x ∷ xs) [] e p q = absurd (omega arith)
order_from n (x ∷ xs) (y ∷ ys) e p q =
    let rest = order_from (n * 256 + x) xs ys (omega arith) p.1 q.1 in
    ⊎_elim first_less (λ h. ⊎_elim first_greater (λ k. first_same rest (omega arith)) (cases_lt y x)) (cases_lt x y)
  where
    first : (o : Ordering) → nat_cmp x y ≡ o → in_order (x ∷ xs) (y ∷ ys) ≡ partial_ordering_then (Some o) (in_order xs ys)
    first o h = ap (λ o. partial_ordering_then (Some o) (in_order xs ys)) h

    first_less : x < y → InOrder n (x ∷ xs) (y ∷ ys)
    first_less h = first Less (nat_cmp-less x y h) ∙ ap Some (sym (nat_cmp-less _ _ (less_from (n * 256 + x) (n * 256 + y) xs ys (omega arith) p.1 q.1 (omega arith))))

    first_greater : y < x → InOrder n (x ∷ xs) (y ∷ ys)
    first_greater h = first Greater (nat_cmp-greater x y h) ∙ ap Some (sym (nat_cmp-greater _ _ (less_from (n * 256 + y) (n * 256 + x) ys xs (omega arith) q.1 p.1 (omega arith))))

    first_same : InOrder (n * 256 + x) xs ys → x ≡ y → InOrder n (x ∷ xs) (y ∷ ys)
    first_same rest h = first Equal (nat_cmp-same x y h) ∙ rest ∙ ap (λ z. Some (nat_cmp (unsigned_from (n * 256 + x) xs) (unsigned_from (n * 256 + z) ys))) h

-- the tests of an order, where `below` says that the first is less, and `above` that the second is
pub record Agrees (o : Option Ordering) (below above : Bool) : Type 0 where
  pub less : is_some_and is_lt o ≡ below
  pub greater : is_some_and is_gt o ≡ above
  pub at_most : is_some_and is_le o ≡ not above
  pub at_least : is_some_and is_ge o ≡ not below

numbers : (m n : ℕ) → Agrees (Some (nat_cmp m n)) (ltb m n) (ltb n m)
numbers m n = record { less = grind (arith, nat_tests); greater = grind (arith, nat_tests); at_most = grind (arith, nat_tests); at_least = grind (arith, nat_tests) }

below_from : (n : ℕ) (bs : List ℕ) → Bytes bs → unsigned_from n bs < suc n * 256 ^ length bs
below_from n [] p = omega arith
below_from n (b ∷ bs) p =
    let size = 256 ^ length bs in
    let rest = below_from (n * 256 + b) bs p.1 in
    let wide = mul-le-mul_right {m = suc (n * 256 + b)} {n = suc n * 256} size (omega (arith, p.0)) in
    let whole = mul_assoc (suc n) 256 size ∙ ap (λ k. suc n * k) (sym (pow-succ' 256 (length bs))) in
    omega (arith, rest, wide, whole)

below : (bs : List ℕ) → Bytes bs → unsigned bs < 256 ^ length bs
below bs p = omega (arith, below_from 0 bs p, one-mul (256 ^ length bs))

abbrev by_sign : Bool → List ℕ → ℤ
by_sign s bs = cond s (negsuc (256 ^ length bs - suc (unsigned bs))) (pos (unsigned bs))

-- numbers of different signs, and numbers that compare as their bytes do
pub record Apart (s t : Bool) (x y : ℤ) : Type 0 where
  pub less : s ≡ lt_z x y
  pub greater : t ≡ lt_z y x
  pub not_less : t ≡ not (lt_z x y)
  pub not_greater : s ≡ not (lt_z y x)

pub record Alike (m n : ℕ) (x y : ℤ) : Type 0 where
  pub less : ltb m n ≡ lt_z x y
  pub greater : ltb n m ≡ lt_z y x

module _ (a b : List ℕ) where
  apart : (s t : Bool) → not (beq s t) ≡ true → Apart s t (by_sign s a) (by_sign t b)
  apart true true d = absurd (let z : ◌≡◌ {A = ℕ} 0 1 = cc in omega arith)
  apart true false d = record { less = refl; greater = refl; not_less = refl; not_greater = refl }
  apart false true d = record { less = refl; greater = refl; not_less = refl; not_greater = refl }
  apart false false d = absurd (let z : ◌≡◌ {A = ℕ} 0 1 = cc in omega arith)

  alike : length a ≡ length b → Bytes a → Bytes b → (s t : Bool) → not (beq s t) ≡ false → Alike (unsigned a) (unsigned b) (by_sign s a) (by_sign t b)
  alike e p q true true d =
      let size = ap (λ n. 256 ^ n) e in
      let m = below a p in
      let n = below b q in
      record { less = grind (arith, nat_tests); greater = grind (arith, nat_tests) }
  alike e p q true false d = absurd (let z : ◌≡◌ {A = ℕ} 0 1 = cc in omega arith)
  alike e p q false true d = absurd (let z : ◌≡◌ {A = ℕ} 0 1 = cc in omega arith)
  alike e p q false false d = record { less = refl; greater = refl }

  -- where the signs differ, the negative one is less
  pub signs_differ : (s t : Bool) → s ≡ negative a → t ≡ negative b → not (beq s t) ≡ true → Apart s t (signed a) (signed b)
  signs_differ s t f g d = subst (λ x. Apart s t x (signed b)) (ap (λ n. by_sign n a) f) (subst (λ y. Apart s t (by_sign s a) y) (ap (λ n. by_sign n b) g) (apart s t d))

  -- where they do not, two's complement orders as unsigned numbers do
  pub signs_same : length a ≡ length b → Bytes a → Bytes b → (s t : Bool) → s ≡ negative a → t ≡ negative b → not (beq s t) ≡ false → Alike (unsigned a) (unsigned b) (signed a) (signed b)
  signs_same e p q s t f g d = subst (λ x. Alike (unsigned a) (unsigned b) x (signed b)) (ap (λ n. by_sign n a) f) (subst (λ y. Alike (unsigned a) (unsigned b) (by_sign s a) y) (ap (λ n. by_sign n b) g) (alike e p q s t d))

  -- bytes of one length order as their unsigned numbers do
  module _ (e : length a ≡ length b) (p : (i : ℕ) → Fits w8 (get_or a i 0)) (q : (i : ℕ) → Fits w8 (get_or b i 0)) where
    pub unsigned_order : Agrees (in_order a b) (ltb (unsigned a) (unsigned b)) (ltb (unsigned b) (unsigned a))
    unsigned_order = subst (λ o. Agrees o (ltb (unsigned a) (unsigned b)) (ltb (unsigned b) (unsigned a))) (sym (order_from 0 a b e (fit_bytes a p) (fit_bytes b q))) (numbers (unsigned a) (unsigned b))

    -- and where the signs are the same, as their signed numbers do
    pub signed_order : (s t : Bool) → s ≡ negative a → t ≡ negative b → not (beq s t) ≡ false → Agrees (in_order a b) (lt_z (signed a) (signed b)) (lt_z (signed b) (signed a))
    signed_order s t f g d =
        let same = alike e (fit_bytes a p) (fit_bytes b q) s t d in
        let left = ap (λ n. by_sign n a) f in
        let right = ap (λ n. by_sign n b) g in
        let below : ltb (unsigned a) (unsigned b) ≡ lt_z (signed a) (signed b) = same.less ∙ (λ i. lt_z (left i) (right i)) in
        let above : ltb (unsigned b) (unsigned a) ≡ lt_z (signed b) (signed a) = same.greater ∙ (λ i. lt_z (right i) (left i)) in
        let o = in_order a b in
        subst (λ t. Agrees o (lt_z (signed a) (signed b)) t) above (subst (λ t. Agrees o t (ltb (unsigned b) (unsigned a))) below unsigned_order)
