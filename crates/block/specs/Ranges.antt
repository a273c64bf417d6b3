-- What the bytes of a block in range are, one by one.
use Rattle.std.proofs.Common.{◌≡◌, ℕ, ◌+◌, ◌<◌, ◌≤◌, Bool, true, false, leb, List, get_or, Decides, ap, ◌∙◌, inl, inr, arith}
use Rattle.std.proofs.lemmas.Bool.{and_parts, both_ways, cases_Bool, leb-true, le-leb}
use Rattle.std.proofs.lemmas.List.Elements.{All-from_get_or}
use Rattle.std.proofs.lemmas.List.Folds.{list_all_at}
use Rattle.std.proofs.lemmas.List.FromFn.{get_or-range_with_len, length-range_with_len}
use Rattle.std.proofs.lemmas.List.Sums.{list_all-from_AllPass}
use Rattle.std.specs.List.{range_with_len}
use Rattle.interfaces.specs.States.{last_locality, value_limit}
use Rattle.block.specs.Layout.{entry_count, in_range, length_in, lengths_fit, locality_in, number_in, presence_in}

lengths_each : (bs : List ℕ) (n k : ℕ) → lengths_fit bs n ≡ true → k < n → length_in bs k ≤ value_limit
lengths_each bs n k e h = elim (cases_Bool (fits k)) [ inl t ↦ leb-true _ _ t | inr f ↦ absurd (both_ways _ (list_all_at fits (range_with_len 0 n) k 0 (omega (arith, length-range_with_len 0 n)) (ap fits (get_or-range_with_len 0 n k 0 h ∙ at) ∙ f)) e) ]
  where
    fits : ℕ → Bool
    fits i = leb (length_in bs i) value_limit

    at : 0 + k ≡ k
    at = omega arith

lengths_decide : (bs : List ℕ) (n : ℕ) → Decides (lengths_fit bs n) ((k : ℕ) → k < n → length_in bs k ≤ value_limit)
lengths_decide bs n = (λ e k h. lengths_each bs n k e h, λ each. list_all-from_AllPass fits (range_with_len 0 n) (All-from_get_or (λ i. fits i ≡ true) (range_with_len 0 n) 0 (λ i h. here each i (omega (arith, length-range_with_len 0 n)))))
  where
    fits : ℕ → Bool
    fits i = leb (length_in bs i) value_limit

    here : ((k : ℕ) → k < n → length_in bs k ≤ value_limit) → (i : ℕ) → i < n → fits (get_or (range_with_len 0 n) i 0) ≡ true
    here each i h = let at : 0 + i ≡ i = omega arith in ap fits (get_or-range_with_len 0 n i 0 h ∙ at) ∙ le-leb _ _ (each i h)

pub lengths_fit_lem : (bs : List ℕ) (n : ℕ) → ((k : ℕ) → k < n → length_in bs k ≤ value_limit) → lengths_fit bs n ≡ true
lengths_fit_lem bs n h = (lengths_decide bs n).1 h

pub lengths_miss : (bs : List ℕ) (n i : ℕ) → i < n → value_limit < length_in bs i → lengths_fit bs n ≡ false
lengths_miss bs n i l h = elim (cases_Bool (lengths_fit bs n)) [ inl e ↦ absurd (omega (arith, (lengths_decide bs n).0 e i l)) | inr e ↦ e ]

pub record Ranges (bs : List ℕ) : Type 0 where
  pub locality : locality_in bs ≤ last_locality
  pub presence : presence_in bs ≤ 1
  pub number : number_in bs ≤ entry_count
  pub lengths : (i : ℕ) → i < number_in bs → length_in bs i ≤ value_limit

pub ranges : (bs : List ℕ) → in_range bs ≡ true → Ranges bs
ranges bs e =
    let a = and_parts _ _ e in
    let b = and_parts _ _ a.1 in
    let c = and_parts _ _ b.1 in
    record { locality = leb-true _ _ a.0; presence = leb-true _ _ b.0; number = leb-true _ _ c.0; lengths = λ i. lengths_each bs (number_in bs) i c.1 }
