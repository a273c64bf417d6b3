-- Laws of answers and of what they leave in a buffer.
use Rattle.std.proofs.Common.{◌≡◌, ℕ, ◌-◌, ◌<◌, ◌≤◌, cond, List, [], ◌++◌, length, get_or, replicate, Some, None, Ok, ap, ◌∙◌, arith}
use borrow.Rule.Slice.PartMut.{post_of}
use Rattle.std.proofs.lemmas.List.{append-nil, drop-replicate}
use Rattle.std.proofs.lemmas.Bool.{and_from, cond-true, eq-eqb, le-leb, lt-ltb}
use Rattle.interfaces.specs.declared.code.Code.TheVariants.{Size, Value}
use Rattle.interfaces.specs.Checks.{first, fitting, left_in, refused_with}
use Rattle.interfaces.specs.States.{Snapshot, pcr_count, pcr_length, name_length, value_limit, held_value, unless_flawed, read_pcr, read_stored}

pub fitting_ok : (bs : List ℕ) (room : ℕ) → length bs ≤ room → fitting bs room ≡ Ok bs
fitting_ok bs room h = ap (λ t. refused_with (cond t None (Some Size)) bs) (le-leb (length bs) room h)

-- bytes written over the front of a cleared buffer
pub over_zeros : (bs now zs : List ℕ) (room k : ℕ) → now ≡ bs → zs ≡ replicate room 0 → k ≡ length bs → now ++ post_of 0 k zs ≡ left_in room (Ok bs)
over_zeros bs now zs room k a b c = (λ i. a i ++ post_of 0 (c i) (b i)) ∙ ap (λ l. bs ++ l) (drop-replicate (length bs) room 0)

-- bytes that fill the whole buffer
pub left_whole : (bs : List ℕ) (room : ℕ) → length bs ≡ room → left_in room (Ok bs) ≡ bs
left_whole bs room e = let none : room - length bs ≡ 0 = omega arith in ap (λ n. bs ++ replicate n 0) none ∙ append-nil bs

-- reading whose checks pass
pub pcr_read : (s : Snapshot) (index room : ℕ) → room ≡ pcr_length → index < pcr_count → read_pcr s index room ≡ Ok (get_or s.pcrs index [])
pcr_read s index room a b = λ i. refused_with (first (cond-true _ None (Some Size) (eq-eqb room pcr_length a) i) (cond-true _ None (Some Value) (lt-ltb index pcr_count b) i)) (get_or s.pcrs index [])

pub stored_read : (s : Snapshot) (name : List ℕ) (room : ℕ) → length name ≡ name_length → room ≡ value_limit → read_stored s name room ≡ held_value (s.stored name)
stored_read s name room a b = ap (λ f. unless_flawed f (held_value (s.stored name))) (cond-true _ None (Some Size) (and_from _ _ (eq-eqb _ _ a) (eq-eqb _ _ b)))
