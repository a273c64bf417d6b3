-- Laws of joining digests.
use Rattle.std.proofs.Common.{◌≡◌, ℕ, ◌+◌, ◌*◌, ◌<◌, ◌≤◌, List, [], ◌∷◌, ◌++◌, map, length, get_or, take, Ok, Err, sym, refl, ap, ◌∙◌, suc-mul, add_comm, zero-mul, arith}
use Rattle.std.specs.List.{flat_map, AllByRecursion}
use Rattle.std.proofs.lemmas.List.{length-append, length-replicate, flat_map_more, take_more}
use Rattle.std.proofs.lemmas.Bool.{lt-leb, le-leb, and_left, and_right, and_from, cond-true, cond-false}
use Rattle.interfaces.specs.declared.code.Code.TheVariants.{Size}
use Rattle.interfaces.specs.Hashing.{Hashing, zeros}
use Rattle.policy.specs.Cases.{AnyOfEightHashes292}
use Rattle.policy.specs.Lines.{be4, fewest_trees, most_trees}
use Rattle.policy.specs.Strings.{or_code, join_string, joined_digest, join_answer}

pub joined_map : {X A : Type 0} (f : X → List A) (xs : List X) → flat_map (λ d. d) (map f xs) ≡ flat_map f xs
joined_map f [] = refl
joined_map f (x ∷ xs) = ap (λ l. f x ++ l) (joined_map f xs)

-- one element more
pub joined_step : {X : Type 0} (f : X → List ℕ) (pre : List ℕ) (xs : List X) (i : ℕ) (d : X) → i < length xs → (pre ++ flat_map f (take i xs)) ++ f (get_or xs i d) ≡ pre ++ flat_map f (take (i + 1) xs)
joined_step f pre xs i d l = flat_map_more f pre (take i xs) (get_or xs i d) ∙ ap (λ ys. pre ++ flat_map f ys) (sym (take_more xs i d l))

joined_length : (size : ℕ) (ds : List (List ℕ)) → AllByRecursion (λ d. length d ≡ size) ds → length (flat_map (λ d. d) ds) ≡ length ds * size
joined_length size [] a = sym (zero-mul size)
joined_length size (d ∷ ds) a = length-append d (flat_map (λ d. d) ds) ∙ (λ i. a.0 i + joined_length size ds a.1 i) ∙ add_comm size (length ds * size) ∙ sym (suc-mul (length ds) size)

pub any_of_eight : AnyOfEightHashes292
any_of_eight h ok ds eight sized =
    let size : h.size ≡ 32 = ok.long in
    let all : length (flat_map (λ d. d) ds) ≡ 8 * 32 = joined_length h.size ds sized ∙ (λ i. eight i * size i) in
    let front : length (zeros h) ≡ 32 = length-replicate h.size 0 ∙ size in
    length-append (zeros h ++ be4 or_code) (flat_map (λ d. d) ds) ∙ omega (arith, length-append (zeros h) (be4 or_code))

module _ (h : Hashing) (ds : List (List ℕ)) where
  pub join-few : length ds < fewest_trees → Err Size ≡ join_answer h ds
  join-few l = sym (cond-false _ _ _ (and_left _ _ (lt-leb fewest_trees _ l)))

  pub join_many : most_trees < length ds → Err Size ≡ join_answer h ds
  join_many l = sym (cond-false _ _ _ (and_right _ _ (lt-leb _ most_trees l)))

  pub join_some : fewest_trees ≤ length ds → length ds ≤ most_trees → Ok (joined_digest h ds) ≡ join_answer h ds
  join_some l m = sym (cond-true _ _ _ (and_from _ _ (le-leb fewest_trees _ l) (le-leb _ most_trees m)))

-- the string that the code writes
pub join_written : {X : Type 0} (h : Hashing) (f : X → List ℕ) (xs : List X) → (zeros h ++ be4 or_code) ++ flat_map f xs ≡ join_string h (map f xs)
join_written h f xs = ap (λ l. (zeros h ++ be4 or_code) ++ l) (sym (joined_map f xs))
