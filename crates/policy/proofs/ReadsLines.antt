-- Reading a policy line inverts writing it.
use Rattle.std.proofs.Common.{◌≡◌, ℕ, ◌<◌, List, [], ◌∷◌, ◌++◌, Some, None, codes, decimal, Option, sym, refl, ap, ◌∙◌, subst, inl, inr, arith}
use Rattle.std.specs.Option.{option_map}
use Rattle.std.specs.List.{AllByRecursion}
use Rattle.std.proofs.lemmas.List.{append-nil}
use Rattle.std.proofs.ByRecursion.{All-append}
use Rattle.interfaces.specs.declared.fault.Refusal.{Refusal}
use Rattle.text.specs.Cut.{tab, line_feed, fields}
use Rattle.text.specs.Numbers.{number}
use Rattle.text.proofs.Inverses.{Without, tabs, number-decimal, decimal-number, decimal_without, fields_tabs, tabs_fields, tabs_without}
use Rattle.policy.specs.Assertions.{Assertion, pcr, nv, time, locality, command, presence, password}
use Rattle.policy.specs.Lines.{Line, start, any, extend, shown, Holds, Is, line_flaw}
use Rattle.policy.specs.Reading.{none, one, parse_assertion, parse_start, parse_any, parse_word, parse_fields, parse, refused_by, judged, read_line, Reads}
use Rattle.policy.proofs.ReadsFields.{thence_from, some_from, word_from, none_from, one_from}
use Rattle.policy.proofs.ReadsWords.{assertion_word, assertion_fields, assertion_tabs, word_without, fields_without, assertion_read, shown_assertion_lem}

-- the word and the fields that a line is written with
abbrev pub line_word : Line → List ℕ
line_word start = codes "start"
line_word (any n) = codes "any"
line_word (extend a) = assertion_word a

abbrev pub line_fields : Line → List (List ℕ)
line_fields start = []
line_fields (any n) = decimal n ∷ []
line_fields (extend a) = assertion_fields a

-- a line is its word and its fields behind tabs
pub line_tabs : (l : Line) → shown l ≡ line_word l ++ tabs (line_fields l)
line_tabs start = refl
line_tabs (any n) = simp append-nil
line_tabs (extend a) = assertion_tabs a

-- no byte below the digits stands in the word or in a field
module _ (b : ℕ) (low : b < 48) where
  line_word_without : (l : Line) → Without b (line_word l)
  line_word_without start = omega arith
  line_word_without (any n) = omega arith
  line_word_without (extend a) = word_without b low a

  line_fields_without : (l : Line) → Holds l → AllByRecursion (Without b) (line_fields l)
  line_fields_without start h = tt
  line_fields_without (any n) h = (decimal_without b low n h, tt)
  line_fields_without (extend a) h = fields_without b low a h

-- a line is read from its word and fields
word_read : (l : Line) → Holds l → parse_word (line_word l) (line_fields l) ≡ Some l
word_read start h = refl
word_read (any n) h = rw (number-decimal n h)
word_read (extend (pcr s d)) h = ap (option_map extend) (assertion_read (pcr s d) h)
word_read (extend (nv n c)) h = ap (option_map extend) (assertion_read (nv n c) h)
word_read (extend (time c)) h = ap (option_map extend) (assertion_read (time c) h)
word_read (extend (locality s)) h = ap (option_map extend) (assertion_read (locality s) h)
word_read (extend (command c)) h = ap (option_map extend) (assertion_read (command c) h)
word_read (extend presence) h = refl
word_read (extend password) h = refl

-- a line that was written is read
pub parse-shown : (l : Line) → Holds l → parse (shown l) ≡ Some l
parse-shown l h = ap parse (line_tabs l) ∙ ap parse_fields (fields_tabs (line_word l) (line_fields l) (line_word_without tab (omega arith) l) (line_fields_without tab (omega arith) l h)) ∙ word_read l h

-- the word w and the fields fs are l as written
abbrev Written : List ℕ → List (List ℕ) → Line → Type 0
Written w fs l = Is (w ++ tabs fs) l

-- what is read at a word is a line of that word
module _ (w : List ℕ) (fs : List (List ℕ)) (l : Line) where
  start_from : w ≡ codes "start" → parse_start fs ≡ Some l → Written w fs l
  start_from v e =
      let p = thence_from (none fs) _ l e in
      subst (Written w fs) (some_from _ l p.2) (record { holds = tt; written = cc (v, none_from fs p.0 p.1) })

  any_from : w ≡ codes "any" → parse_any fs ≡ Some l → Written w fs l
  any_from v e =
      let p = thence_from (one fs) _ l e in
      let n = thence_from (number p.0) _ l p.2 in
      let x = decimal-number p.0 n.0 n.1 in
      subst (Written w fs) (some_from _ l n.2) (record { holds = x.1; written = line_tabs (any n.0) ∙ cc (v, x.0, one_from fs p.0 p.1) })

  extend_from : option_map extend (parse_assertion w fs) ≡ Some l → Written w fs l
  extend_from e = go (parse_assertion w fs) refl e
    where
      go : (o : Option Assertion) → parse_assertion w fs ≡ o → option_map extend o ≡ Some l → Written w fs l
      go None t f = absurd (let z : ◌≡◌ {A = ℕ} 0 1 = cc in omega arith)
      go (Some a) t f =
          let r = shown_assertion_lem w fs a t in
          subst (Written w fs) (some_from _ l f) (record { holds = r.0; written = r.1 })

  -- what is read as a line is its word and fields
  pub word_written : parse_word w fs ≡ Some l → Is (w ++ tabs fs) l
  word_written = word_from w (codes "start") _ _ l start_from (word_from w (codes "any") _ _ l any_from extend_from)

-- what is read as a line is that line as written
pub shown-parse : (s : List ℕ) (l : Line) → parse s ≡ Some l → Is s l
shown-parse s l e = go (fields s) refl e
  where
    go : (fs : List (List ℕ)) → fields s ≡ fs → parse_fields fs ≡ Some l → Is s l
    go [] t f = absurd (let z : ◌≡◌ {A = ℕ} 0 1 = cc in omega arith)
    go (w ∷ fs) t f = subst (λ k. Is k l) (tabs_fields s w fs t) (word_written w fs l f)

-- a text that is a line is read as it
pub is_parse : (s : List ℕ) (l : Line) → Is s l → parse s ≡ Some l
is_parse s l i = ap parse (sym i.written) ∙ parse-shown l i.holds

-- a text is one line at most
pub shown-once : (s : List ℕ) (l m : Line) → Is s l → Is s m → l ≡ m
shown-once s l m i j = some_from l m (sym (is_parse s l i) ∙ is_parse s m j)

-- a line is read as it is written, and refused by its first flaw or as no line at all
pub reads : (size : ℕ) (s : List ℕ) → Reads size s (read_line size s)
reads size s = go (parse s) refl
  where
    judge : (l : Line) (o : Option Refusal) → Is s l → line_flaw size l ≡ o → Reads size s (refused_by o l)
    judge l None i f = (i, f)
    judge l (Some e) i f = inl (l, i, f)

    go : (o : Option Line) → parse s ≡ o → Reads size s (judged (line_flaw size) o)
    go None t = inr (refl, λ l i. let p = is_parse s l i in let z : ◌≡◌ {A = ℕ} 0 1 = cc in omega arith)
    go (Some l) t = judge l (line_flaw size l) (shown-parse s l t) refl

-- a line as written has no line feed inside
pub shown_without : (l : Line) → Holds l → Without line_feed (shown l)
shown_without l h = rw (line_tabs l) (All-append (λ c. c ≡ line_feed → ⊥) (line_word l) (tabs (line_fields l)) (line_word_without line_feed (omega arith) l) (tabs_without line_feed (omega arith) (line_fields l) (line_fields_without line_feed (omega arith) l h)))
