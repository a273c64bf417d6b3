-- Small tables of values under keys, as lists in their order. Keys are compared by a test.
use Rattle.std.specs.Prelude.{ℕ, suc, Bool, true, cond, not, ◌&&◌, ◌||◌, List, [], ◌∷◌, length, is_some, Some, None, Option, nat_lt}
use Rattle.std.specs.Option.{option_map}
use Rattle.interfaces.specs.declared.code.Code.{Code}
use Rattle.interfaces.specs.declared.code.Code.TheVariants.{Memory}
use Rattle.interfaces.specs.Checks.{unless}

-- The value under a key: the first match counts.
abbrev pub value_under : {K V : Type 0} → (K → K → Bool) → List (K × V) → K → Option V
value_under same [] key = None
value_under same (e ∷ es) key = cond (same e.0 key) (Some e.1) (value_under same es key)

-- The place of that match.
abbrev pub place_under : {K V : Type 0} → (K → K → Bool) → List (K × V) → K → Option ℕ
place_under same [] key = None
place_under same (e ∷ es) key = cond (same e.0 key) (Some 0) (option_map suc (place_under same es key))

-- The table with the value under the key: put in the place of the first match, or at the end.
abbrev pub put_under : {K V : Type 0} → (K → K → Bool) → List (K × V) → K → V → List (K × V)
put_under same [] key value = (key, value) ∷ []
put_under same (e ∷ es) key value = cond (same e.0 key) ((key, value) ∷ es) (e ∷ put_under same es key value)

-- No key comes twice.
abbrev pub distinct : {K V : Type 0} → (K → K → Bool) → List (K × V) → Bool
distinct same [] = true
distinct same (e ∷ es) = not (is_some (value_under same es e.0)) && distinct same es

-- A value for one more key than the most is refused.
abbrev pub full_flaw : {K V : Type 0} → (K → K → Bool) → ℕ → List (K × V) → K → Option Code
full_flaw same most es key = unless (is_some (value_under same es key) || nat_lt (length es) most) Memory
