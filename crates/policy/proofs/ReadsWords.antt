-- An assertion's word and fields are read as the assertion, and nothing else is.
use Rattle.std.proofs.Common.{◌≡◌, ℕ, ◌<◌, List, [], ◌∷◌, ◌++◌, get_or, Some, codes, decimal, sym, refl, ap, ◌∙◌, subst, arith}
use Rattle.std.specs.List.{AllByRecursion}
use Rattle.std.proofs.lemmas.List.{append_assoc, append-nil}
use Rattle.std.proofs.ByRecursion.{All-get_or}
use Rattle.text.specs.Cut.{tab, fields}
use Rattle.text.specs.Numbers.{number}
use Rattle.text.specs.Pairs.{pairs, unpaired, of_length}
use Rattle.text.proofs.Inverses.{Without, tabs, unpaired-pairs, pairs-unpaired, number-decimal, decimal-number, pairs_without, decimal_without, fields_tabs}
use Rattle.policy.specs.Assertions.{Comparison, Assertion, pcr, nv, time, locality, command, presence, password}
use Rattle.policy.specs.Lines.{be4, shown_assertion, HoldsComparison, HoldsAssertion}
use Rattle.policy.specs.Reading.{thence, of4, none, one, two, three, four, parse_comparison, parse_pcr, parse_nv, parse_time, parse_locality, parse_command, parse_bare, parse_assertion}
use Rattle.policy.proofs.ReadsFields.{thence_from, some_from, word_from, none_from, one_from, two_from, three_from, four_from, length_from, single, of4-be4, be4-of4}

-- the word that an assertion is written with
abbrev pub assertion_word : Assertion → List ℕ
assertion_word (pcr selection digest) = codes "pcr"
assertion_word (nv name c) = codes "nv"
assertion_word (time c) = codes "time"
assertion_word (locality set) = codes "locality"
assertion_word (command code) = codes "command"
assertion_word presence = codes "presence"
assertion_word password = codes "password"

-- the fields of a comparison
abbrev pub comparison_fields : Comparison → List (List ℕ)
comparison_fields c = pairs c.operand ∷ decimal c.offset ∷ decimal c.operation ∷ []

-- the fields that follow the word
abbrev pub assertion_fields : Assertion → List (List ℕ)
assertion_fields (pcr selection digest) = pairs selection ∷ pairs digest ∷ []
assertion_fields (nv name c) = pairs name ∷ comparison_fields c
assertion_fields (time c) = comparison_fields c
assertion_fields (locality set) = pairs (set ∷ []) ∷ []
assertion_fields (command code) = pairs (be4 code) ∷ []
assertion_fields presence = []
assertion_fields password = []

-- an assertion is its word and its fields behind tabs
pub assertion_tabs : (a : Assertion) → shown_assertion a ≡ assertion_word a ++ tabs (assertion_fields a)
assertion_tabs (pcr selection digest) = simp (append_assoc, append-nil)
assertion_tabs (nv name c) = simp (append_assoc, append-nil)
assertion_tabs (time c) = simp (append_assoc, append-nil)
assertion_tabs (locality set) = simp append-nil
assertion_tabs (command code) = simp append-nil
assertion_tabs presence = refl
assertion_tabs password = refl

-- no byte below the digits stands in the word or in a field: no tab, and no line feed
module _ (b : ℕ) (low : b < 48) where
  pub word_without : (a : Assertion) → Without b (assertion_word a)
  word_without (pcr selection digest) = omega arith
  word_without (nv name c) = omega arith
  word_without (time c) = omega arith
  word_without (locality set) = omega arith
  word_without (command code) = omega arith
  word_without presence = omega arith
  word_without password = omega arith

  comparison_without : (c : Comparison) → HoldsComparison c → AllByRecursion (Without b) (comparison_fields c)
  comparison_without c h = (pairs_without b low c.operand, (decimal_without b low c.offset h.1, (decimal_without b low c.operation h.2, tt)))

  pub fields_without : (a : Assertion) → HoldsAssertion a → AllByRecursion (Without b) (assertion_fields a)
  fields_without (pcr selection digest) h = (pairs_without b low selection, (pairs_without b low digest, tt))
  fields_without (nv name c) h = (pairs_without b low name, comparison_without c h.1)
  fields_without (time c) h = comparison_without c h
  fields_without (locality set) h = (pairs_without b low (set ∷ []), tt)
  fields_without (command code) h = (pairs_without b low (be4 code), tt)
  fields_without presence h = tt
  fields_without password h = tt

-- a comparison is read from its fields
comparison_read : (c : Comparison) → HoldsComparison c → parse_comparison (pairs c.operand) (decimal c.offset) (decimal c.operation) ≡ Some c
comparison_read c h = rw (unpaired-pairs c.operand h.0, number-decimal c.offset h.1, number-decimal c.operation h.2)

-- an assertion is read from its word and fields
pub assertion_read : (a : Assertion) → HoldsAssertion a → parse_assertion (assertion_word a) (assertion_fields a) ≡ Some a
assertion_read (pcr selection digest) h = rw (unpaired-pairs selection h.1, unpaired-pairs digest h.2, h.0)
assertion_read (nv name c) h = rw (unpaired-pairs name h.0, comparison_read c h.1)
assertion_read (time c) h = rw (comparison_read c h)
assertion_read (locality set) h = ap (λ o. thence (of_length 1 o) (λ s. Some (locality (get_or s 0 0)))) (unpaired-pairs (set ∷ []) (h, tt))
assertion_read (command code) h = ap (λ o. thence (of_length 4 o) (λ c. Some (command (of4 c)))) (unpaired-pairs (be4 code) (omega arith)) ∙ ap (λ n. Some (command n)) (of4-be4 code h)
assertion_read presence h = refl
assertion_read password h = refl

-- what is read as a comparison is its fields
comparison_from : (x y z : List ℕ) (c : Comparison) → parse_comparison x y z ≡ Some c → HoldsComparison c × (comparison_fields c ≡ x ∷ y ∷ z ∷ [])
comparison_from x y z c e =
    let b = thence_from (unpaired x) _ c e in
    let f = thence_from (number y) _ c b.2 in
    let o = thence_from (number z) _ c f.2 in
    let bytes = pairs-unpaired x b.0 b.1 in
    let offset = decimal-number y f.0 f.1 in
    let operation = decimal-number z o.0 o.1 in
    let P : Comparison → Type 0 = λ k. HoldsComparison k × (comparison_fields k ≡ x ∷ y ∷ z ∷ []) in
    subst P (some_from _ c o.2) ((bytes.1, offset.1, operation.1), cc (bytes.0, offset.0, operation.0))

-- w and fs are the word and the fields of a
pub record Words (w : List ℕ) (fs : List (List ℕ)) (a : Assertion) : Type 0 where
  pub holds : HoldsAssertion a
  pub word : assertion_word a ≡ w
  pub rest : assertion_fields a ≡ fs

-- what is read at a word is an assertion of that word, by its fields
module _ (w : List ℕ) (fs : List (List ℕ)) (a : Assertion) where
  pcr_from : w ≡ codes "pcr" → parse_pcr fs ≡ Some a → Words w fs a
  pcr_from v e =
      let p = thence_from (two fs) _ a e in
      let s = thence_from (of_length 3 (unpaired p.0.0)) _ a p.2 in
      let d = thence_from (unpaired p.0.1) _ a s.2 in
      let l = length_from 3 (unpaired p.0.0) s.0 s.1 in
      let x = pairs-unpaired p.0.0 s.0 l.0 in
      let y = pairs-unpaired p.0.1 d.0 d.1 in
      subst (Words w fs) (some_from _ a d.2) (record { holds = (l.1, x.1, y.1); word = sym v; rest = cc (two_from fs p.0 p.1, x.0, y.0) })

  nv_from : w ≡ codes "nv" → parse_nv fs ≡ Some a → Words w fs a
  nv_from v e =
      let p = thence_from (four fs) _ a e in
      let n = thence_from (unpaired p.0.0) _ a p.2 in
      let c = thence_from (parse_comparison p.0.1 p.0.2 p.0.3) _ a n.2 in
      let x = pairs-unpaired p.0.0 n.0 n.1 in
      let y = comparison_from p.0.1 p.0.2 p.0.3 c.0 c.1 in
      subst (Words w fs) (some_from _ a c.2) (record { holds = (x.1, y.0); word = sym v; rest = ap (λ l. pairs n.0 ∷ l) y.1 ∙ ap (λ l. l ∷ p.0.1 ∷ p.0.2 ∷ p.0.3 ∷ []) x.0 ∙ sym (four_from fs p.0 p.1) })

  time_from : w ≡ codes "time" → parse_time fs ≡ Some a → Words w fs a
  time_from v e =
      let p = thence_from (three fs) _ a e in
      let c = thence_from (parse_comparison p.0.0 p.0.1 p.0.2) _ a p.2 in
      let y = comparison_from p.0.0 p.0.1 p.0.2 c.0 c.1 in
      subst (Words w fs) (some_from _ a c.2) (record { holds = y.0; word = sym v; rest = y.1 ∙ sym (three_from fs p.0 p.1) })

  locality_from : w ≡ codes "locality" → parse_locality fs ≡ Some a → Words w fs a
  locality_from v e =
      let p = thence_from (one fs) _ a e in
      let s = thence_from (of_length 1 (unpaired p.0)) _ a p.2 in
      let l = length_from 1 (unpaired p.0) s.0 s.1 in
      let x = pairs-unpaired p.0 s.0 l.0 in
      let one_byte = l.1 in
      subst (Words w fs) (some_from _ a s.2) (record { holds = All-get_or (λ b. b < 256) s.0 0 0 (omega arith) x.1; word = sym v; rest = cc (ap pairs (single s.0 one_byte), one_from fs p.0 p.1, x.0) })

  command_from : w ≡ codes "command" → parse_command fs ≡ Some a → Words w fs a
  command_from v e =
      let p = thence_from (one fs) _ a e in
      let s = thence_from (of_length 4 (unpaired p.0)) _ a p.2 in
      let l = length_from 4 (unpaired p.0) s.0 s.1 in
      let x = pairs-unpaired p.0 s.0 l.0 in
      let y = be4-of4 s.0 l.1 x.1 in
      subst (Words w fs) (some_from _ a s.2) (record { holds = y.1; word = sym v; rest = ap (λ k. pairs k ∷ []) y.0 ∙ cc (one_from fs p.0 p.1, x.0) })

  bare_from : (b : Assertion) → HoldsAssertion b → assertion_fields b ≡ [] → w ≡ assertion_word b → parse_bare b fs ≡ Some a → Words w fs a
  bare_from b h f v e =
      let p = thence_from (none fs) _ a e in
      subst (Words w fs) (some_from _ a p.2) (record { holds = h; word = sym v; rest = f ∙ sym (none_from fs p.0 p.1) })

  -- what is read as an assertion is its word and fields
  pub assertion_from : parse_assertion w fs ≡ Some a → Words w fs a
  assertion_from =
      word_from w (codes "pcr") _ _ a pcr_from
      (word_from w (codes "nv") _ _ a nv_from
      (word_from w (codes "time") _ _ a time_from
      (word_from w (codes "locality") _ _ a locality_from
      (word_from w (codes "command") _ _ a command_from
      (word_from w (codes "presence") _ _ a (bare_from presence tt refl)
      (word_from w (codes "password") _ _ a (bare_from password tt refl) (λ e. absurd (let z : ◌≡◌ {A = ℕ} 0 1 = cc in omega arith))))))))

-- an assertion as written has its fields, which are read as it
pub assertion_shown : (a : Assertion) → HoldsAssertion a → (fields (shown_assertion a) ≡ assertion_word a ∷ assertion_fields a) × (parse_assertion (assertion_word a) (assertion_fields a) ≡ Some a)
assertion_shown a h = (ap fields (assertion_tabs a) ∙ fields_tabs (assertion_word a) (assertion_fields a) (word_without tab (omega arith) a) (fields_without tab (omega arith) a h), assertion_read a h)

-- fields that are read as an assertion are those of it as written
pub shown_assertion_lem : (w : List ℕ) (fs : List (List ℕ)) (a : Assertion) → parse_assertion w fs ≡ Some a → HoldsAssertion a × (shown_assertion a ≡ w ++ tabs fs)
shown_assertion_lem w fs a e =
    let r = assertion_from w fs a e in
    (r.holds, assertion_tabs a ∙ cc (r.word, r.rest))
