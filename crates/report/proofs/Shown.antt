-- What the lines of a state report show.
use Rattle.std.proofs.Common.{◌≡◌, ℕ, ◌+◌, ◌<◌, ◌≤◌, true, cond, ltb, List, [], ◌∷◌, ◌++◌, length, Some, None, Ok, Err, Option, unwrap_or, sym, refl, ap, ◌∙◌, arith}
use Rattle.std.specs.List.{range_with_len, flat_map}
use Rattle.std.proofs.lemmas.List.FromFn.{map-range_with_len_more}
use Rattle.std.proofs.lemmas.List.{flat_map_more, map-id}
use Rattle.std.proofs.lemmas.Bool.{cond-true, lt-ltb}
use Rattle.interfaces.specs.declared.code.Code.{Code}
use Rattle.interfaces.specs.Checks.{refused_with}
use Rattle.interfaces.specs.Faults.{call_refusal, fault_at}
use Rattle.interfaces.specs.States.{name_length, value_limit}
use Rattle.block.specs.Layout.{block_length, block_snapshot, entry_at, entry_in, in_range, number_in}
use Rattle.block.specs.Entries.{value_short}
use Rattle.block.specs.Parts.{part-long}
use Rattle.block.specs.Ranges.{ranges}
use Rattle.report.specs.Reports.{shown_fault}
use Rattle.report.specs.StateReports.{shown_block, shown_state}

-- the lengths of a used entry, as it is read
pub record EntryLengths (name value : List ℕ) : Type 0 where
  pub name_long : length name ≡ name_length
  pub value_within : length value ≤ value_limit

pub entry_lengths : (bs : List ℕ) (i : ℕ) (name value : List ℕ) → length bs ≡ block_length → in_range bs ≡ true → i < number_in bs → Some (name, value) ≡ cond (ltb i (number_in bs)) (Some (entry_in bs i)) None → EntryLengths name value
entry_lengths bs i name value long sound h e =
    let within = ranges bs sound in
    let some = e ∙ cond-true _ _ _ (lt-ltb i (number_in bs) h) in
    let name-is = ap (λ (o : Option (List ℕ × List ℕ)). length (unwrap_or o (name, value)).0) some in
    let value-is = ap (λ (o : Option (List ℕ × List ℕ)). length (unwrap_or o (name, value)).1) some in
    record {
      name_long = name-is ∙ part-long bs (entry_at i) name_length (omega (arith, within.number));
      value_within = omega (arith, value-is, value_short bs i (within.lengths i h));
    }

-- the lines of the first numbers, and of one number more
counting_more : (n : ℕ) → range_with_len 0 n ++ n ∷ [] ≡ range_with_len 0 (n + 1)
counting_more n = sym (sym (map-id (range_with_len 0 (n + 1))) ∙ map-range_with_len_more (λ k. k) 0 n n (omega arith) ∙ ap (λ l. l ++ n ∷ []) (map-id (range_with_len 0 n)))

pub joined_step : (f : ℕ → List ℕ) (p before after : List ℕ) (n : ℕ) → after ≡ before ++ f n → before ≡ p ++ flat_map f (range_with_len 0 n) → after ≡ p ++ flat_map f (range_with_len 0 (n + 1))
joined_step f p before after n a b = a ∙ ap (λ l. l ++ f n) b ∙ flat_map_more f p (range_with_len 0 n) n ∙ ap (λ l. p ++ flat_map f l) (counting_more n)

-- what is taken has no flaw, and is what was given
pub taken-is : {A : Type 0} (flaw : Option Code) (given taken : A) → Ok taken ≡ refused_with flaw given → (flaw ≡ None) × (taken ≡ given)
taken-is None given taken e = (refl, (let same : taken ≡ given = cc in same))
taken-is (Some d) given taken e = absurd (let z : ◌≡◌ {A = ℕ} 0 1 = cc in omega arith)

-- what a block shows once it is taken or refused
pub taken-shown : (flaw : Option Code) (bs taken : List ℕ) → Ok taken ≡ refused_with flaw bs → shown_state (block_snapshot taken) taken ≡ shown_block flaw bs
taken-shown flaw bs taken e =
    let is = taken-is flaw bs taken e in
    ap (λ b. shown_state (block_snapshot b) b) is.1 ∙ sym (ap (λ f. shown_block f bs) is.0)

pub refused_shown : (flaw : Option Code) (bs : List ℕ) (code : Code) → Err code ≡ refused_with flaw bs → shown_fault (fault_at 0 (call_refusal code)) ≡ shown_block flaw bs
refused_shown None bs code e = absurd (let z : ◌≡◌ {A = ℕ} 0 1 = cc in omega arith)
refused_shown (Some d) bs code e = let same : code ≡ d = cc in ap (λ c. shown_fault (fault_at 0 (call_refusal c))) same
