-- Reading inverts writing: digit pairs, decimals, fields and lines.
use Rattle.std.proofs.Common.{◌≡◌, ℕ, zero, suc, ◌+◌, ◌*◌, ◌/◌, ◌%◌, ◌<◌, ◌≤◌, Bool, true, false, cond, ◌&&◌, eqb, leb, List, [], ◌∷◌, ◌++◌, length, get_or, Some, None, decimal, sym, refl, ap, ◌∙◌, arith, rules}
use Rattle.std.specs.Int.{IsInRange}
use Rattle.std.specs.List.{AllByRecursion}
use Rattle.std.proofs.lemmas.List.{append-nil}
use Rattle.std.proofs.ByRecursion.{All-append, All-weaker}
use Rattle.std.proofs.lemmas.Str.Parse.{IsNumeralModel, numerals_by_fold}
use Rattle.std.proofs.lemmas.Fmt.{digits_decimal, digits_value-decimal, decimal-digits_value, decimal_nonempty, first_decimal, decimal_digit}
use Rattle.std.proofs.lemmas.Bool.{leb-true, eqb-true, eqb-false, le-leb, ne_eqb, cond-true, cond-false, and_from, and_parts}
use Rattle.std.proofs.lemmas.Bool.Decides.{nat_tests}
use Rattle.text.specs.Cut.{line_feed, tab, attached, lines, fields}
use Rattle.text.specs.Numbers.{number_limit, is_digit, shifted, digits_from, number}
use Rattle.text.specs.Pairs.{hex_digit, pairs, hex_value, unpaired}
use Rattle.text.proofs.Cuts.{fields-cut}
use Rattle.text.proofs.Hex.{first_pair}

-- a digit is read as the value that it was written for
hex_back : (v : ℕ) → v < 16 → hex_value (hex_digit v) ≡ Some v
hex_back v h = grind (arith, nat_tests)

-- a value that was read is written as the digit it was read from
digit_back : (c v : ℕ) → hex_value c ≡ Some v → (hex_digit v ≡ c) × (v < 16)
digit_back c v e = (grind (arith, nat_tests), grind (arith, nat_tests))

-- the bytes that were written are read
pub unpaired-pairs : (bs : List ℕ) → AllByRecursion (λ b. b < 256) bs → unpaired (pairs bs) ≡ Some bs
unpaired-pairs [] h = refl
unpaired-pairs (b ∷ bs) h =
    let whole : b / 16 * 16 + b % 16 ≡ b = omega arith in
    rw (hex_back (b / 16) (omega arith), hex_back (b % 16) (omega arith), unpaired-pairs bs h.1) (ap (λ n. Some (n ∷ bs)) whole)

-- a field that is read as bytes is those bytes as written
pub pairs-unpaired : (s bs : List ℕ) → unpaired s ≡ Some bs → (pairs bs ≡ s) × AllByRecursion (λ b. b < 256) bs
pairs-unpaired [] bs e = let z : [] ≡ bs = cc in rw (← z) (refl, tt)
pairs-unpaired (x ∷ []) bs e = absurd (let z : ◌≡◌ {A = ℕ} 0 1 = cc in omega arith)
pairs-unpaired (x ∷ y ∷ cs) bs e =
    let f = first_pair x y cs bs e in
    let h = digit_back x f.high f.is_high in
    let l = digit_back y f.low f.is_low in
    let r = pairs-unpaired cs f.rest f.is_rest in
    let up : (f.high * 16 + f.low) / 16 ≡ f.high = omega arith in
    let down : (f.high * 16 + f.low) % 16 ≡ f.low = omega arith in
    rw f.is (rw (up, down) (cc (h.0, l.0, r.0)), (omega arith, r.1))

-- the number that the digits before, n, and these digits make
abbrev value_from : ℕ → List ℕ → ℕ
value_from n [] = n
value_from n (c ∷ cs) = value_from (shifted n c) cs

-- all are decimal digits
abbrev Decimal : List ℕ → Type 0
Decimal ds = AllByRecursion (IsInRange 48 57) ds

-- the laws of decimals, in these words
own : IsNumeralModel Decimal (value_from 0)
own = numerals_by_fold Decimal (search rules) value_from (search rules)

-- more digits make no smaller number
value_grows : (n : ℕ) (ds : List ℕ) → n ≤ value_from n ds
value_grows n [] = omega arith
value_grows n (c ∷ cs) = omega (arith, value_grows (shifted n c) cs)

-- digits are read as their value, if it is within the limit
digits_read : (n : ℕ) (ds : List ℕ) → Decimal ds → value_from n ds ≤ number_limit → digits_from n ds ≡ Some (value_from n ds)
digits_read n [] d h = refl
digits_read n (c ∷ cs) d h = cond-true _ _ _ (and_from _ _ (and_from _ _ (le-leb 48 c d.0.0) (le-leb c 57 d.0.1)) (le-leb _ number_limit (omega (arith, value_grows (shifted n c) cs)))) ∙ digits_read (shifted n c) cs d.1 h

-- what is read as m: digits that make m, within the limit
record ReadAs (n : ℕ) (ds : List ℕ) (m : ℕ) : Type 0 where
  digits : Decimal ds
  value : value_from n ds ≡ m
  small : m ≤ number_limit

read_digits : (n : ℕ) (ds : List ℕ) (m : ℕ) → n ≤ number_limit → digits_from n ds ≡ Some m → ReadAs n ds m
read_digits n [] m h e = let z : n ≡ m = cc in record { digits = tt; value = z; small = omega arith }
read_digits n (c ∷ cs) m h e = go (is_digit c && leb (shifted n c) number_limit) refl e (read_digits (shifted n c) cs m)
  where
    go : (b : Bool) → (is_digit c && leb (shifted n c) number_limit) ≡ b → cond b (digits_from (shifted n c) cs) None ≡ Some m → (shifted n c ≤ number_limit → digits_from (shifted n c) cs ≡ Some m → ReadAs (shifted n c) cs m) → ReadAs n (c ∷ cs) m
    go true t f rest =
        let p = and_parts _ _ t in
        let q = and_parts _ _ p.0 in
        let r = rest (leb-true _ _ p.1) f in
        record { digits = ((leb-true _ _ q.0, leb-true _ _ q.1), r.digits); value = r.value; small = r.small }
    go false t f rest = absurd (let z : ◌≡◌ {A = ℕ} 0 1 = cc in omega arith)

-- with no leading zero, a field is read as its digits are
number_is : (s : List ℕ) → 0 < length s → (get_or s 0 0 ≡ 48 → length s ≡ 1) → number s ≡ digits_from 0 s
number_is [] l h = absurd (omega arith)
number_is (c ∷ []) l h = refl
number_is (c ∷ d ∷ cs) l h = cond-false _ _ _ (ne_eqb c 48 (λ e. omega (arith, h e)))

-- the number that was written is read
pub number-decimal : (n : ℕ) → n < 65536 → number (decimal n) ≡ Some n
number-decimal n h =
    let v = digits_value-decimal own n (omega arith) in
    number_is (decimal n) (decimal_nonempty n (omega arith)) (lead n h) ∙ digits_read 0 (decimal n) (digits_decimal own n (omega arith)) (omega arith) ∙ ap Some v
  where
    lead : (k : ℕ) → k < 65536 → get_or (decimal k) 0 0 ≡ 48 → length (decimal k) ≡ 1
    lead zero l e = ap length (decimal_digit 0 (omega arith))
    lead (suc k) l e = absurd (omega (arith, first_decimal (suc k) (omega arith) (omega arith)))

-- a field that is read has digits, and no leading zero
number_digits : (s : List ℕ) (n : ℕ) → number s ≡ Some n → (0 < length s) × (get_or s 0 0 ≡ 48 → length s ≡ 1) × (digits_from 0 s ≡ Some n)
number_digits [] n e = absurd (let z : ◌≡◌ {A = ℕ} 0 1 = cc in omega arith)
number_digits (c ∷ []) n e = (omega arith, λ l. refl, e)
number_digits (c ∷ d ∷ cs) n e = go (eqb c 48) refl e
  where
    go : (b : Bool) → eqb c 48 ≡ b → cond b None (digits_from 0 (c ∷ d ∷ cs)) ≡ Some n → (0 < length (c ∷ d ∷ cs)) × (c ≡ 48 → length (c ∷ d ∷ cs) ≡ 1) × (digits_from 0 (c ∷ d ∷ cs) ≡ Some n)
    go true t f = absurd (let z : ◌≡◌ {A = ℕ} 0 1 = cc in omega arith)
    go false t f = (omega arith, λ l. absurd (eqb-false c 48 t l), f)

-- a field that is read as a number is that number as written
pub decimal-number : (s : List ℕ) (n : ℕ) → number s ≡ Some n → (decimal n ≡ s) × (n < 65536)
decimal-number s n e =
    let d = number_digits s n e in
    let r = read_digits 0 s n (omega arith) d.2 in
    let v = r.value in
    (ap decimal (sym v) ∙ decimal-digits_value own s r.digits d.0 d.1 (omega arith), omega arith)

-- b does not stand in s
abbrev pub Without : ℕ → List ℕ → Type 0
Without b s = AllByRecursion (λ c. c ≡ b → ⊥) s

-- a digit is 48 or more
hex_above : (v : ℕ) → 48 ≤ hex_digit v
hex_above v = grind (arith, nat_tests)

-- pairs and decimals hold no tab, no line feed, nor any byte below the digits
pub pairs_without : (b : ℕ) → b < 48 → (bs : List ℕ) → Without b (pairs bs)
pairs_without b h [] = tt
pairs_without b h (x ∷ bs) = (λ e. omega (arith, hex_above (x / 16)), (λ e. omega (arith, hex_above (x % 16)), pairs_without b h bs))

pub decimal_without : (b : ℕ) → b < 48 → (n : ℕ) → n < 65536 → Without b (decimal n)
decimal_without b h n l = All-weaker (IsInRange 48 57) (λ c. c ≡ b → ⊥) (λ c d e. omega arith) (decimal n) (digits_decimal own n (omega arith))

-- a line without tabs is one field
pub fields-one : (s : List ℕ) → Without tab s → fields s ≡ s ∷ []
fields-one [] w = refl
fields-one (c ∷ cs) w = cond-false _ _ _ (ne_eqb c tab w.0) ∙ ap (attached c) (fields-one cs w.1)

-- what stands before the first tab is the first field
pub fields-more : (s rest : List ℕ) → Without tab s → fields (s ++ tab ∷ rest) ≡ s ∷ fields rest
fields-more [] rest w = refl
fields-more (c ∷ cs) rest w = cond-false _ _ _ (ne_eqb c tab w.0) ∙ ap (attached c) (fields-more cs rest w.1)

-- fields, each behind a tab
abbrev pub tabs : List (List ℕ) → List ℕ
tabs [] = []
tabs (f ∷ fs) = tab ∷ f ++ tabs fs

-- a byte other than the tab that stands in no field stands in none behind tabs
pub tabs_without : (b : ℕ) → (tab ≡ b → ⊥) → (fs : List (List ℕ)) → AllByRecursion (Without b) fs → Without b (tabs fs)
tabs_without b n [] h = tt
tabs_without b n (f ∷ fs) h = (n, All-append (λ c. c ≡ b → ⊥) f (tabs fs) h.0 (tabs_without b n fs h.1))

-- the fields that were written are read
pub fields_tabs : (w : List ℕ) (fs : List (List ℕ)) → Without tab w → AllByRecursion (Without tab) fs → fields (w ++ tabs fs) ≡ w ∷ fs
fields_tabs w [] a b = ap fields (append-nil w) ∙ fields-one w a
fields_tabs w (f ∷ fs) a b = fields-more w (f ++ tabs fs) a ∙ ap (λ l. w ∷ l) (fields_tabs f fs b.0 b.1)

-- fields as written in a line
abbrev untabbed : List (List ℕ) → List ℕ
untabbed [] = []
untabbed (f ∷ fs) = f ++ tabs fs

untabbed_fields : (s : List ℕ) → untabbed (fields s) ≡ s
untabbed_fields [] = refl
untabbed_fields (c ∷ cs) = go (eqb c tab) refl (untabbed_fields cs)
  where
    put : (ps : List (List ℕ)) → untabbed (attached c ps) ≡ c ∷ untabbed ps
    put [] = refl
    put (p ∷ ps) = refl

    go : (b : Bool) → eqb c tab ≡ b → untabbed (fields cs) ≡ cs → untabbed (cond b ([] ∷ fields cs) (attached c (fields cs))) ≡ c ∷ cs
    go true t e = ap tabs (fields-cut cs) ∙ ap (λ l. tab ∷ untabbed l) (sym (fields-cut cs)) ∙ cc (e, eqb-true c tab t)
    go false t e = put (fields cs) ∙ ap (λ l. c ∷ l) e

-- a line is its fields as written
pub tabs_fields : (s w : List ℕ) (fs : List (List ℕ)) → fields s ≡ w ∷ fs → w ++ tabs fs ≡ s
tabs_fields s w fs e = ap untabbed (sym e) ∙ untabbed_fields s

-- what stands before the first line feed is the first line
pub lines_more : (s rest : List ℕ) → Without line_feed s → lines (s ++ line_feed ∷ rest) ≡ s ∷ lines rest
lines_more [] rest w = refl
lines_more (c ∷ cs) rest w = cond-false _ _ _ (ne_eqb c line_feed w.0) ∙ ap (attached c) (lines_more cs rest w.1)

-- some bytes without line feeds are one line
pub lines-one : (s : List ℕ) → 0 < length s → Without line_feed s → lines s ≡ s ∷ []
lines-one [] h w = absurd (omega arith)
lines-one (c ∷ []) h w = cond-false _ _ _ (ne_eqb c line_feed w.0)
lines-one (c ∷ d ∷ ds) h w = cond-false _ _ _ (ne_eqb c line_feed w.0) ∙ ap (attached c) (lines-one (d ∷ ds) (omega arith) w.1)
