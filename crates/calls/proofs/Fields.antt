-- Laws of fields that are decoded one after another, and of what was put.
use Rattle.std.proofs.Common.{◌≡◌, ℕ, ◌+◌, ◌≤◌, true, false, ◌&&◌, List, [], ◌∷◌, ◌++◌, length, is_some, Some, None, Ok, Err, codes, Option, Result, sym, refl, ap, ◌∙◌, inl, inr, arith}
use Rattle.std.specs.Option.{option_map}
use Rattle.std.specs.List.{list_all}
use Rattle.std.proofs.lemmas.List.{append_assoc, append-nil, length-append}
use Rattle.std.proofs.lemmas.List.Folds.{list_all-append}
use Rattle.std.proofs.lemmas.Bool.{and_left, and_right, and_from, cond-false, cond-true, eq-eqb, ne_eqb}
use Rattle.std.specs.Str.{bytes_eq}
use Rattle.std.specs.Result.{IsOk, result_ok}
use Rattle.arrays.specs.declared.array_vec.Full.{Full}
use Rattle.arrays.specs.Items.{Behind, NoRoom, Puts}
use Rattle.interfaces.specs.declared.fault.Refusal.{Refusal}
use Rattle.interfaces.specs.Checks.{meant}
use Rattle.interfaces.specs.Hashing.{digest_length}
use Rattle.text.specs.Pairs.{of_length, unpaired}
use Rattle.policy.specs.Reading.{judged, parse_assertion, refused_by, thence}
use Rattle.policy.specs.Assertions.{Assertion}
use Rattle.policy.specs.Judging.{call_flaw, read_as}
use Rattle.policy.proofs.ReadsFields.{length_from}
use Rattle.calls.specs.Calls.{all_sized, assert}
use Rattle.calls.specs.Filling.{Unfit}
use Rattle.calls.specs.Limits.{most_digests}
use Rattle.calls.specs.Reading.{call_line_flaw, parse_call_word, unpaired_all}

-- a first field that is a byte string is in front of the rest
pub good_field : (f : List ℕ) (fs : List (List ℕ)) (d : List ℕ) → unpaired f ≡ Some d → unpaired_all (f ∷ fs) ≡ option_map (λ ds. d ∷ ds) (unpaired_all fs)
good_field f fs d e = ap (λ o. thence o (λ x. thence (unpaired_all fs) (λ ds. Some (x ∷ ds)))) e ∙ go (unpaired_all fs)
  where
    go : (o : Option (List (List ℕ))) → thence o (λ ds. Some (d ∷ ds)) ≡ option_map (λ ds. d ∷ ds) o
    go None = refl
    go (Some ds) = refl

-- fields are byte strings if each is one
pub all_some : (fs : List (List ℕ)) → list_all (λ f. is_some (unpaired f)) fs ≡ is_some (unpaired_all fs)
all_some [] = refl
all_some (f ∷ fs) = go (unpaired f) (unpaired_all fs) (all_some fs)
  where
    go : (o : Option (List ℕ)) (p : Option (List (List ℕ))) → list_all (λ x. is_some (unpaired x)) fs ≡ is_some p → is_some o && list_all (λ x. is_some (unpaired x)) fs ≡ is_some (thence o (λ d. thence p (λ ds. Some (d ∷ ds))))
    go None p e = refl
    go (Some d) None e = e
    go (Some d) (Some ds) e = e

-- what putting items came to, by its result
pub put : {T : Type 0} (room : ℕ) (old more new : List T) (r : Result (Unit {0}) Full) (u : Unit {0}) → result_ok r ≡ Some u → Puts room old more r new → Behind room old more new
put room old more new (Ok x) u e p = p
put room old more new (Err f) u e p = absurd cc

pub not_put : {T : Type 0} (room : ℕ) (old more new : List T) (r : Result (Unit {0}) Full) → result_ok r ≡ None → Puts room old more r new → NoRoom room old more new
not_put room old more new (Ok x) e p = absurd cc
not_put room old more new (Err f) e p = p

-- items that there is room for are put
pub roomy : {T : Type 0} (room : ℕ) (old more new : List T) (r : Result (Unit {0}) Full) → length old + length more ≤ room → Puts room old more r new → IsOk r
roomy room old more new (Ok x) h p = refl
roomy room old more new (Err f) h p = absurd (omega (arith, p.over))

-- one digest more
pub sized_more : (front : List (List ℕ)) (d : List ℕ) → all_sized digest_length front ≡ true → length d ≡ digest_length → all_sized digest_length (front ++ d ∷ []) ≡ true
sized_more front d h l = list_all-append _ front _ ∙ and_from _ _ h (and_from _ _ (eq-eqb _ _ l) refl)

-- all fields are these digests, and then those of the rest
pub record Before (all front rest : List (List ℕ)) : Type 0 where
  pub sized : all_sized digest_length front ≡ true
  pub joined : unpaired_all all ≡ option_map (λ ds. front ++ ds) (unpaired_all rest)

-- none of them are read yet
pub before-none : (all : List (List ℕ)) → Before all [] all
before-none all = record { sized = refl; joined = go (unpaired_all all) }
  where
    go : (o : Option (List (List ℕ))) → o ≡ option_map (λ ds. [] ++ ds) o
    go None = refl
    go (Some ds) = refl

-- all of them are
pub before_all : (all front : List (List ℕ)) → Before all front [] → unpaired_all all ≡ Some front
before_all all front b = b.joined ∙ ap Some (append-nil front)

-- the next field
module _ (all front rest fs : List (List ℕ)) (f : List ℕ) (b : Before all front rest) (next : rest ≡ f ∷ fs) where
  -- is one of them, where all are byte strings
  parts : (ds : List (List ℕ)) → unpaired_all all ≡ Some ds → (d : List ℕ) × (more : List (List ℕ)) × (unpaired f ≡ Some d) × (ds ≡ front ++ d ∷ more)
  parts ds e = go (unpaired f) (unpaired_all fs) refl (sym (ap (λ r. option_map (λ es. front ++ es) (unpaired_all r)) next) ∙ sym b.joined ∙ e)
    where
      go : (o : Option (List ℕ)) (p : Option (List (List ℕ))) → unpaired f ≡ o → option_map (λ es. front ++ es) (thence o (λ d. thence p (λ es. Some (d ∷ es)))) ≡ Some ds → (d : List ℕ) × (more : List (List ℕ)) × (unpaired f ≡ Some d) × (ds ≡ front ++ d ∷ more)
      go None p t h = absurd cc
      go (Some d) None t h = absurd cc
      go (Some d) (Some es) t h = (d, es, t, (let s : ds ≡ front ++ d ∷ es = cc in s))

  -- is one more than the most
  pub too_many : most_digests ≤ length front → Unfit all
  too_many h ds e = let p = parts ds e in inl (omega (arith, length-append front (p.0 ∷ p.1), ap length p.3))

  -- is no digest
  pub no_digest : of_length digest_length (unpaired f) ≡ None → Unfit all
  no_digest n ds e =
      let p = parts ds e in
      let other = ne_eqb (length p.0) digest_length (λ l. let some : of_length digest_length (unpaired f) ≡ Some p.0 = ap (of_length digest_length) p.2 ∙ cond-true _ _ _ (eq-eqb _ _ l) in cc) in
      inr (ap (all_sized digest_length) p.3 ∙ list_all-append _ front _ ∙ and_right _ _ (and_left _ _ other))

  -- is a digest
  pub one_more : (d : List ℕ) → of_length digest_length (unpaired f) ≡ Some d → Before all (front ++ d ∷ []) fs
  one_more d e =
      let read = length_from digest_length (unpaired f) d e in
      record {
        sized = sized_more front d b.sized read.1;
        joined = b.joined ∙ ap (λ r. option_map (λ ds. front ++ ds) (unpaired_all r)) next ∙ ap (option_map (λ ds. front ++ ds)) (good_field f fs d read.0) ∙ go (unpaired_all fs);
      }
    where
      go : (o : Option (List (List ℕ))) → option_map (λ ds. front ++ ds) (option_map (λ ds. d ∷ ds) o) ≡ option_map (λ ds. (front ++ d ∷ []) ++ ds) o
      go None = refl
      go (Some ds) = ap Some (sym (append_assoc front (d ∷ []) ds))

-- an assertion that was read is a call
pub asserted : (w : List ℕ) (fs : List (List ℕ)) (r : Result Assertion Refusal) → bytes_eq w (codes "or") ≡ false → r ≡ read_as (parse_assertion w) fs → meant assert r ≡ judged (call_line_flaw digest_length) (parse_call_word w fs)
asserted w fs r other e = ap (meant assert) e ∙ go (parse_assertion w fs) ∙ sym (ap (judged (call_line_flaw digest_length)) (cond-false _ _ _ other))
  where
    judge : (a : Assertion) (o : Option Refusal) → meant assert (refused_by o a) ≡ refused_by o (assert a)
    judge a None = refl
    judge a (Some e) = refl

    go : (o : Option Assertion) → meant assert (judged call_flaw o) ≡ judged (call_line_flaw digest_length) (option_map assert o)
    go None = refl
    go (Some a) = judge a (call_flaw a)
