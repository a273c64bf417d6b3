-- Laws of PCRs with planned ones over them.
use Rattle.std.specs.Prelude.{◌≡◌, ℕ, zero, suc, ◌+◌, ◌<◌, List, [], ◌∷◌, map, length, get_or, Some, None, Option, ◌≢◌, nat_eq, slice_index_or, slice_set, refl}
use Rattle.std.proofs.Common.{arith, ap, ◌∙◌}
use Rattle.std.specs.Option.{unwrap_or}
use Rattle.std.specs.List.{AllByRecursion}
use Rattle.std.proofs.lemmas.Bool.{cond-true, cond-false, eq-eqb, eqb-true, ne_eqb, lt-ltb}
use Rattle.std.proofs.lemmas.Bool.Decides.{Decides-eqb}
use Rattle.arrays.specs.declared.array_vec.ArrayVec.{ArrayVec}
use Rattle.arrays.specs.Items.{items}
use Rattle.interfaces.specs.declared.code.Code.{Code}
use Rattle.interfaces.specs.declared.code.Code.TheVariants.{Size, Value}
use Rattle.interfaces.specs.Checks.{Bytes, first, settled}
use Rattle.interfaces.specs.States.{Snapshot, pcr_count, pcr_length}
use Rattle.tables.specs.Tables.{value_under, put_under, full_flaw}
use Rattle.tables.proofs.Bytes.{small_bytes}
use Rattle.tables.proofs.Laws.{value_holds, value_put}
use Rattle.forecast.specs.declared.planned.PlannedPcr.{PlannedPcr}
use Rattle.forecast.specs.Limits.{plan_count}
use Rattle.forecast.specs.Plans.{Plans, overlaid, with_pcrs, forecast_snapshot, plan_flaw, with_pcr}
use Rattle.forecast.specs.Views.{plan_of, plans_of}

pub overlaid-length : (plans : Plans) (n : ℕ) (ps : List (List ℕ)) → length (overlaid plans n ps) ≡ length ps
overlaid-length plans n [] = refl
overlaid-length plans n (p ∷ ps) = ap suc (overlaid-length plans (suc n) ps)

pub overlaid-none : (n : ℕ) (ps : List (List ℕ)) → overlaid [] n ps ≡ ps
overlaid-none n [] = refl
overlaid-none n (p ∷ ps) = ap (λ l. p ∷ l) (overlaid-none (suc n) ps)

-- the PCR at place i, which has the number k
pub overlaid_at : (plans : Plans) (n k : ℕ) (ps : List (List ℕ)) (i : ℕ) (d : List ℕ) → k ≡ n + i → i < length ps → slice_index_or (overlaid plans n ps) i d ≡ unwrap_or (value_under nat_eq plans k) (slice_index_or ps i d)
overlaid_at plans n k [] i d e h = absurd (omega arith)
overlaid_at plans n k (p ∷ ps) zero d e h = let at : n ≡ k = omega arith in ap (λ m. unwrap_or (value_under nat_eq plans m) p) at
overlaid_at plans n k (p ∷ ps) (suc i) d e h = overlaid_at plans (suc n) k ps i d (omega arith) (omega arith)

pub overlaid_all : (P : List ℕ → Type 0) (plans : Plans) → ((k : ℕ) (v : List ℕ) → value_under nat_eq plans k ≡ Some v → P v) → (n : ℕ) (ps : List (List ℕ)) → AllByRecursion P ps → AllByRecursion P (overlaid plans n ps)
overlaid_all P plans each n [] h = tt
overlaid_all P plans each n (p ∷ ps) h = (go (value_under nat_eq plans n) refl, overlaid_all P plans each (suc n) ps h.1)
  where
    go : (o : Option (List ℕ)) → value_under nat_eq plans n ≡ o → P (unwrap_or o p)
    go None e = h.0
    go (Some v) e = each n v e

-- a PCR that is planned leaves those behind it, and changes its own
module _ (plans : Plans) (k : ℕ) (v : List ℕ) where
  other : (m : ℕ) → (k ≢ m) → value_under nat_eq (put_under nat_eq plans k v) m ≡ value_under nat_eq plans m
  other m n = value_put nat_eq Decides-eqb plans k v m ∙ cond-false _ _ _ (ne_eqb k m n)

  own : (m : ℕ) → k ≡ m → value_under nat_eq (put_under nat_eq plans k v) m ≡ Some v
  own m e = value_put nat_eq Decides-eqb plans k v m ∙ cond-true _ _ _ (eq-eqb k m e)

  behind : (n : ℕ) (ps : List (List ℕ)) → k < n → overlaid (put_under nat_eq plans k v) n ps ≡ overlaid plans n ps
  behind n [] h = refl
  behind n (p ∷ ps) h = λ i. unwrap_or (other n (λ e. omega arith) i) p ∷ behind (suc n) ps (omega arith) i

  overlaid_put : (n i : ℕ) (ps : List (List ℕ)) → k ≡ n + i → overlaid (put_under nat_eq plans k v) n ps ≡ slice_set (overlaid plans n ps) i v
  overlaid_put n i [] e = refl
  overlaid_put n zero (p ∷ ps) e = λ i. unwrap_or (own n (omega arith) i) p ∷ behind (suc n) ps (omega arith) i
  overlaid_put n (suc i) (p ∷ ps) e = λ j. unwrap_or (other n (λ f. omega arith) j) p ∷ overlaid_put (suc n) i ps (omega arith) j

pub forecast_none : (s : Snapshot) → forecast_snapshot [] s ≡ s
forecast_none s = ap (with_pcrs s) (overlaid-none 0 s.pcrs)

pub forecast_put : (plans : Plans) (s : Snapshot) (index : ℕ) (value : List ℕ) (flaw : Option Code) → forecast_snapshot (settled flaw (put_under nat_eq plans index value) plans) s ≡ settled flaw (with_pcr (forecast_snapshot plans s) index value) (forecast_snapshot plans s)
forecast_put plans s index value None = ap (with_pcrs s) (overlaid_put plans index value 0 index s.pcrs (omega arith))
forecast_put plans s index value (Some c) = refl

-- planned values are byte strings of a PCR's length
record Planned-value (index : ℕ) (value : List ℕ) : Type 0 where
  long : length value ≡ pcr_length
  bytes : Bytes value

every : (es : List PlannedPcr) (i : ℕ) (d : ℕ × List ℕ) → i < length (map plan_of es) → Planned-value (get_or (map plan_of es) i d).0 (get_or (map plan_of es) i d).1
every [] i d h = absurd (omega arith)
every (e ∷ es) zero d h = record { long = e.value.long; bytes = small_bytes e.value.bytes e.value.small }
every (e ∷ es) (suc i) d h = every es i d (omega arith)

planned_value : (p : ArrayVec PlannedPcr plan_count) (k : ℕ) (v : List ℕ) → value_under nat_eq (plans_of p) k ≡ Some v → Planned-value k v
planned_value p k v e = value_holds nat_eq Planned-value (plans_of p) k v (every (items p)) eqb-true e

pub planned_long : (p : ArrayVec PlannedPcr plan_count) (k : ℕ) (v : List ℕ) → value_under nat_eq (plans_of p) k ≡ Some v → length v ≡ pcr_length
planned_long p k v e = (planned_value p k v e).long

pub planned_bytes : (p : ArrayVec PlannedPcr plan_count) (k : ℕ) (v : List ℕ) → value_under nat_eq (plans_of p) k ≡ Some v → Bytes v
planned_bytes p k v e = (planned_value p k v e).bytes

pub plan_passes : (plans : Plans) (index : ℕ) (value : List ℕ) → length value ≡ pcr_length → index < pcr_count → plan_flaw plans index value ≡ full_flaw nat_eq plan_count plans index
plan_passes plans index value a b = λ i. first (cond-true _ None (Some Size) (eq-eqb _ _ a) i) (first (cond-true _ None (Some Value) (lt-ltb _ _ b) i) (full_flaw nat_eq plan_count plans index))
