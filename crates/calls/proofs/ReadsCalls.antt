-- Reading a line of a run inverts writing it.
use Rattle.std.proofs.Common.{◌≡◌, ℕ, ◌<◌, List, [], ◌∷◌, ◌++◌, map, Some, None, codes, Option, sym, refl, ap, ◌∙◌, subst, inl, inr, arith}
use Rattle.std.specs.Option.{option_map}
use Rattle.std.specs.List.{flat_map, AllByRecursion}
use Rattle.interfaces.specs.declared.fault.Refusal.{Refusal}
use Rattle.interfaces.specs.Checks.{Bytes}
use Rattle.text.specs.Cut.{tab, fields}
use Rattle.text.specs.Pairs.{pairs, unpaired}
use Rattle.text.proofs.Inverses.{Without, tabs, fields_tabs, pairs-unpaired, pairs_without, tabs_fields, unpaired-pairs}
use Rattle.policy.specs.Assertions.{Assertion, pcr, nv, time, locality, command, presence, password}
use Rattle.policy.specs.Lines.{tabbed}
use Rattle.policy.specs.Reading.{parse_assertion, refused_by, judged}
use Rattle.policy.proofs.ReadsFields.{some_from, thence_from, word_from}
use Rattle.policy.proofs.ReadsWords.{assertion_word, assertion_fields, assertion_tabs, word_without, fields_without, assertion_read, shown_assertion_lem}
use Rattle.calls.specs.Calls.{Call, assert, or, shown_call, HoldsCall, IsCall}
use Rattle.calls.specs.Reading.{unpaired_all, parse_call_word, parse_call_fields, parse_call, call_line_flaw, read_call, ReadsCall}
use Rattle.calls.proofs.Fields.{good_field}

-- the word and the fields that a call is written with
abbrev call_word : Call → List ℕ
call_word (assert a) = assertion_word a
call_word (or ds) = codes "or"

abbrev call_fields : Call → List (List ℕ)
call_fields (assert a) = assertion_fields a
call_fields (or ds) = map pairs ds

digests_tabs : (ds : List (List ℕ)) → flat_map (λ d. tabbed (pairs d)) ds ≡ tabs (map pairs ds)
digests_tabs [] = refl
digests_tabs (d ∷ ds) = ap (λ l. tab ∷ pairs d ++ l) (digests_tabs ds)

call_tabs : (c : Call) → shown_call c ≡ call_word c ++ tabs (call_fields c)
call_tabs (assert a) = assertion_tabs a
call_tabs (or ds) = ap (λ l. codes "or" ++ l) (digests_tabs ds)

module _ (b : ℕ) (low : b < 48) where
  call_word_without : (c : Call) → Without b (call_word c)
  call_word_without (assert a) = word_without b low a
  call_word_without (or ds) = omega arith

  digests_without : (ds : List (List ℕ)) → AllByRecursion (Without b) (map pairs ds)
  digests_without [] = tt
  digests_without (d ∷ ds) = (pairs_without b low d, digests_without ds)

  call_fields_without : (c : Call) → HoldsCall c → AllByRecursion (Without b) (call_fields c)
  call_fields_without (assert a) h = fields_without b low a h
  call_fields_without (or ds) h = digests_without ds

digests_read : (ds : List (List ℕ)) → AllByRecursion Bytes ds → unpaired_all (map pairs ds) ≡ Some ds
digests_read [] h = refl
digests_read (d ∷ ds) h = good_field (pairs d) (map pairs ds) d (unpaired-pairs d h.0) ∙ ap (option_map (λ l. d ∷ l)) (digests_read ds h.1)

word_read : (c : Call) → HoldsCall c → parse_call_word (call_word c) (call_fields c) ≡ Some c
word_read (assert (pcr s d)) h = ap (option_map assert) (assertion_read (pcr s d) h)
word_read (assert (nv n c)) h = ap (option_map assert) (assertion_read (nv n c) h)
word_read (assert (time c)) h = ap (option_map assert) (assertion_read (time c) h)
word_read (assert (locality s)) h = ap (option_map assert) (assertion_read (locality s) h)
word_read (assert (command c)) h = ap (option_map assert) (assertion_read (command c) h)
word_read (assert presence) h = refl
word_read (assert password) h = refl
word_read (or ds) h = ap (option_map or) (digests_read ds h)

-- a call that was written is read
pub parse-shown : (c : Call) → HoldsCall c → parse_call (shown_call c) ≡ Some c
parse-shown c h = ap parse_call (call_tabs c) ∙ ap parse_call_fields (fields_tabs (call_word c) (call_fields c) (call_word_without tab (omega arith) c) (call_fields_without tab (omega arith) c h)) ∙ word_read c h

digests_from : (fs ds : List (List ℕ)) → unpaired_all fs ≡ Some ds → (map pairs ds ≡ fs) × AllByRecursion Bytes ds
digests_from [] ds e = let none : [] ≡ ds = some_from [] ds e in subst (λ l. (map pairs l ≡ []) × AllByRecursion Bytes l) none (refl, tt)
digests_from (f ∷ fs) ds e =
    let p = thence_from (unpaired f) _ ds e in
    let q = thence_from (unpaired_all fs) _ ds p.2 in
    let first = pairs-unpaired f p.0 p.1 in
    let more = digests_from fs q.0 q.1 in
    subst (λ l. (map pairs l ≡ f ∷ fs) × AllByRecursion Bytes l) (some_from _ ds q.2) ((λ i. first.0 i ∷ more.0 i), (first.1, more.1))

module _ (w : List ℕ) (fs : List (List ℕ)) (c : Call) where
  or_from : w ≡ codes "or" → option_map or (unpaired_all fs) ≡ Some c → IsCall (w ++ tabs fs) c
  or_from v e = go (unpaired_all fs) refl e
    where
      go : (o : Option (List (List ℕ))) → unpaired_all fs ≡ o → option_map or o ≡ Some c → IsCall (w ++ tabs fs) c
      go None t f = absurd cc
      go (Some ds) t f =
          let r = digests_from fs ds t in
          subst (IsCall (w ++ tabs fs)) (some_from _ c f) (record { holds = r.1; written = call_tabs (or ds) ∙ (λ i. sym v i ++ tabs (r.0 i)) })

  assert_from : option_map assert (parse_assertion w fs) ≡ Some c → IsCall (w ++ tabs fs) c
  assert_from e = go (parse_assertion w fs) refl e
    where
      go : (o : Option Assertion) → parse_assertion w fs ≡ o → option_map assert o ≡ Some c → IsCall (w ++ tabs fs) c
      go None t f = absurd cc
      go (Some a) t f =
          let r = shown_assertion_lem w fs a t in
          subst (IsCall (w ++ tabs fs)) (some_from _ c f) (record { holds = r.0; written = r.1 })

  word_written : parse_call_word w fs ≡ Some c → IsCall (w ++ tabs fs) c
  word_written = word_from w (codes "or") _ _ c or_from assert_from

-- what is read as a call is that call as written
pub shown-parse : (s : List ℕ) (c : Call) → parse_call s ≡ Some c → IsCall s c
shown-parse s c e = go (fields s) refl e
  where
    go : (fs : List (List ℕ)) → fields s ≡ fs → parse_call_fields fs ≡ Some c → IsCall s c
    go [] t f = absurd cc
    go (w ∷ fs) t f = subst (λ k. IsCall k c) (tabs_fields s w fs t) (word_written w fs c f)

-- a text that is a call is read as it
pub is_parse : (s : List ℕ) (c : Call) → IsCall s c → parse_call s ≡ Some c
is_parse s c i = ap parse_call (sym i.written) ∙ parse-shown c i.holds

-- a call is read as it is written, and refused by its first flaw or as no call at all
pub reads : (size : ℕ) (s : List ℕ) → ReadsCall size s (read_call size s)
reads size s = go (parse_call s) refl
  where
    judge : (c : Call) (o : Option Refusal) → IsCall s c → call_line_flaw size c ≡ o → ReadsCall size s (refused_by o c)
    judge c None i f = (i, f)
    judge c (Some e) i f = inl (c, i, f)

    go : (o : Option Call) → parse_call s ≡ o → ReadsCall size s (judged (call_line_flaw size) o)
    go None t = inr (refl, λ c i. let p = is_parse s c i in cc)
    go (Some c) t = judge c (call_line_flaw size c) (shown-parse s c t) refl
