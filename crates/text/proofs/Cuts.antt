-- Laws of cutting at a byte.
use Rattle.std.proofs.Common.{◌≡◌, ℕ, zero, suc, ◌+◌, ◌<◌, ◌≤◌, Bool, true, false, cond, eqb, ltb, List, [], ◌∷◌, ◌++◌, length, get_or, take, drop, Some, None, Option, unwrap_or, sym, refl, ap, subst, ◌∙◌, arith, Bor}
use Rattle.std.proofs.lemmas.List.{take_more, drop_more, drop_all, take_all, append_assoc, append-nil, nil_from_length}
use Rattle.std.proofs.lemmas.Bool.{eq-eqb, eqb-true, eqb-false, ne_eqb, ltb-false, cond-true, cond-false}
use Rattle.std.proofs.lemmas.List.Quantifiers.{position-Some}
use Rattle.std.proofs.lemmas.List.Sums.{fails_before_first}
use Rattle.std.specs.Option.{option_map}
use Rattle.std.specs.List.{position, position_or_len}
use Rattle.text.specs.Cut.{line_feed, tab, attached, lines, fields, further, before, after, first_line}

-- the lines of what follows a line feed
abbrev pub later_lines : Option (List ℕ) → List (List ℕ)
later_lines None = []
later_lines (Some s) = lines s

pub lines_cut : (c : ℕ) (cs : List ℕ) → lines (c ∷ cs) ≡ before line_feed (c ∷ cs) ∷ later_lines (after line_feed (c ∷ cs))
lines_cut c [] = by (eqb c line_feed)
  where
    by : (b : Bool) → cond b ([] ∷ []) ((c ∷ []) ∷ []) ≡ cond b [] (c ∷ []) ∷ later_lines (cond b (Some []) None)
    by true = refl
    by false = refl
lines_cut c (d ∷ ds) = by (eqb c line_feed) (lines_cut d ds)
  where
    by : (b : Bool) → lines (d ∷ ds) ≡ before line_feed (d ∷ ds) ∷ later_lines (after line_feed (d ∷ ds)) → cond b ([] ∷ lines (d ∷ ds)) (attached c (lines (d ∷ ds))) ≡ cond b [] (c ∷ before line_feed (d ∷ ds)) ∷ later_lines (cond b (Some (d ∷ ds)) (after line_feed (d ∷ ds)))
    by true e = refl
    by false e = ap (attached c) e

pub fields-cut : (s : List ℕ) → fields s ≡ before tab s ∷ further (after tab s)
fields-cut [] = refl
fields-cut (c ∷ cs) = by (eqb c tab) (fields-cut cs)
  where
    by : (b : Bool) → fields cs ≡ before tab cs ∷ further (after tab cs) → cond b ([] ∷ fields cs) (attached c (fields cs)) ≡ cond b [] (c ∷ before tab cs) ∷ further (cond b (Some cs) (after tab cs))
    by true e = refl
    by false e = ap (attached c) e

attached-length : (c : ℕ) (ps : List (List ℕ)) → length (attached c ps) ≤ suc (length ps)
attached-length c [] = omega arith
attached-length c (p ∷ ps) = omega arith

-- a text has no more lines than bytes
pub lines-length : (s : List ℕ) → length (lines s) ≤ length s
lines-length [] = omega arith
lines-length (c ∷ cs) = by (eqb c line_feed) (lines-length cs)
  where
    by : (b : Bool) → length (lines cs) ≤ length cs → length (cond b ([] ∷ lines cs) (attached c (lines cs))) ≤ suc (length cs)
    by true h = omega arith
    by false h = omega (arith, attached-length c (lines cs))

before_found : (b x : ℕ) (cs : List ℕ) → x ≡ b → before b (x ∷ cs) ≡ []
before_found b x cs e = cond-true _ _ _ (eq-eqb x b e)

after_found : (b x : ℕ) (cs : List ℕ) → x ≡ b → after b (x ∷ cs) ≡ Some cs
after_found b x cs e = cond-true _ _ _ (eq-eqb x b e)

before-other : (b x : ℕ) (cs : List ℕ) → (x ≡ b → ⊥) → before b (x ∷ cs) ≡ x ∷ before b cs
before-other b x cs n = cond-false _ _ _ (ne_eqb x b n)

after-other : (b x : ℕ) (cs : List ℕ) → (x ≡ b → ⊥) → after b (x ∷ cs) ≡ after b cs
after-other b x cs n = cond-false _ _ _ (ne_eqb x b n)

-- b does not stand in the first i bytes of s
pub record Passed (b : ℕ) (s : List ℕ) (i : ℕ) : Type 0 where
  pub front : before b s ≡ take i s ++ before b (drop i s)
  pub back : after b s ≡ after b (drop i s)

pub passed_more : (b : ℕ) (s : List ℕ) (i : ℕ) → i < length s → (get_or s i 0 ≡ b → ⊥) → Passed b s i → Passed b s (i + 1)
passed_more b s i within other p =
    let rest = drop_more s i 0 within in
    let x = get_or s i 0 in
    let r = drop (i + 1) s in
    record {
      front = p.front ∙ ap (λ l. take i s ++ l) (ap (before b) rest ∙ before-other b x r other) ∙ sym (append_assoc (take i s) (x ∷ []) (before b r)) ∙ ap (λ l. l ++ before b r) (sym (take_more s i 0 within));
      back = p.back ∙ ap (after b) rest ∙ after-other b x r other;
    }

pub passed_found : (b : ℕ) (s : List ℕ) (i : ℕ) → i < length s → get_or s i 0 ≡ b → Passed b s i → (before b s ≡ take i s) × (after b s ≡ Some (drop (i + 1) s))
passed_found b s i within here p =
    let rest = drop_more s i 0 within in
    let x = get_or s i 0 in
    let r = drop (i + 1) s in
    (p.front ∙ ap (λ l. take i s ++ l) (ap (before b) rest ∙ before_found b x r here) ∙ append-nil (take i s), p.back ∙ ap (after b) rest ∙ after_found b x r here)

pub passed_all : (b : ℕ) (s : List ℕ) (i : ℕ) → length s ≤ i → Passed b s i → (before b s ≡ s) × (after b s ≡ None)
passed_all b s i past p =
    let rest = drop_all i s past in
    (p.front ∙ ap (λ l. take i s ++ before b l) rest ∙ append-nil (take i s) ∙ take_all i s past, p.back ∙ ap (after b) rest)

-- b stands in none of the first i bytes
passed-before : (b : ℕ) (s : List ℕ) (i : ℕ) → i ≤ length s → ((k : ℕ) → k < i → eqb (get_or s k 0) b ≡ false) → Passed b s i
passed-before b s zero h other = record { front = refl; back = refl }
passed-before b s (suc i) h other =
    let n : i + 1 ≡ suc i = omega arith in
    subst (Passed b s) n (passed_more b s i (omega arith) (eqb-false (get_or s i 0) b (other i (omega arith))) (passed-before b s i (omega arith) (λ k l. other k (omega arith))))

-- cut at the place where b was found, or not at all
pub cut_found : (b : ℕ) (s : List ℕ) (i : ℕ) → position (λ c. eqb c b) s ≡ Some i → (before b s ≡ take i s) × (after b s ≡ Some (drop (i + 1) s))
cut_found b s i e =
    let at = position-Some (λ c. eqb c b) s i 0 e in
    passed_found b s i at.0 (eqb-true (get_or s i 0) b at.1) (passed-before b s i (omega (arith, at.0)) at.2)

pub cut_nowhere : (b : ℕ) (s : List ℕ) → position (λ c. eqb c b) s ≡ None → (before b s ≡ s) × (after b s ≡ None)
cut_nowhere b s e =
    let past : length s ≤ position_or_len (λ c. eqb c b) s = by (ltb (position_or_len (λ c. eqb c b) s) (length s)) refl e in
    passed_all b s (length s) (omega arith) (passed-before b s (length s) (omega arith) (λ k h. fails_before_first (λ c. eqb c b) s k 0 (omega arith)))
  where
    by : (t : Bool) → ltb (position_or_len (λ c. eqb c b) s) (length s) ≡ t → cond t (Some (position_or_len (λ c. eqb c b) s)) None ≡ None → length s ≤ position_or_len (λ c. eqb c b) s
    by true l f = absurd (let z : ◌≡◌ {A = ℕ} 0 1 = cc in omega arith)
    by false l f = ltb-false _ _ l

pub lines_none : (s : List ℕ) → length s ≡ 0 → lines s ≡ []
lines_none s e = ap lines (nil_from_length s e)

pub lines-first : (s : List ℕ) → 0 < length s → lines s ≡ before line_feed s ∷ later_lines (after line_feed s)
lines-first [] h = absurd (omega arith)
lines-first (c ∷ cs) h = lines_cut c cs

pub after_shorter : (b : ℕ) (s r : List ℕ) → after b s ≡ Some r → length r < length s
after_shorter b [] r e = absurd (let z : ◌≡◌ {A = ℕ} 0 1 = cc in omega arith)
after_shorter b (c ∷ cs) r e = by (eqb c b) e (after_shorter b cs r)
  where
    by : (t : Bool) → cond t (Some cs) (after b cs) ≡ Some r → (after b cs ≡ Some r → length r < length cs) → length r < suc (length cs)
    by true f h = let same : cs ≡ r = cc in omega (arith, ap length same)
    by false f h = omega (arith, h f)

-- what is left of a text behind its first line
pub rest_lines : (s : List ℕ) → 0 < length s → lines s ≡ before line_feed s ∷ lines (unwrap_or (after line_feed s) [])
rest_lines s h = lines-first s h ∙ ap (λ l. before line_feed s ∷ l) (by (after line_feed s))
  where
    by : (o : Option (List ℕ)) → later_lines o ≡ lines (unwrap_or o [])
    by None = refl
    by (Some r) = refl

pub rest_shorter : (s : List ℕ) → 0 < length s → length (unwrap_or (after line_feed s) []) < length s
rest_shorter s h = by (after line_feed s) refl
  where
    by : (o : Option (List ℕ)) → after line_feed s ≡ o → length (unwrap_or o []) < length s
    by None e = h
    by (Some r) e = after_shorter line_feed s r e

pub unwrap_now : (o : Option (Bor (List ℕ))) (d : Bor (List ℕ)) → (unwrap_or o d).now ≡ unwrap_or (option_map (λ x. x.now) o) d.now
unwrap_now None d = refl
unwrap_now (Some x) d = refl

pub first-none : (s : List ℕ) → length s ≡ 0 → None ≡ first_line s
first-none s e = sym (ap first_line (nil_from_length s e))

pub first_some : (s line rest : List ℕ) → 0 < length s → line ≡ before line_feed s → rest ≡ unwrap_or (after line_feed s) [] → Some (line, rest) ≡ first_line s
first_some [] line rest h a b = absurd (omega arith)
first_some (c ∷ cs) line rest h a b = λ i. Some (a i, b i)
