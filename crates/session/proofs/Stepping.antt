-- Laws of calls: what a refusal by the fields leaves, and that a history goes on.
use Rattle.std.proofs.Common.{◌≡◌, ℕ, Bool, cond, not, eqb, Some, None, Ok, Err, Option, Result, sym, refl, ap, subst, ◌∙◌, arith}
use Rattle.std.specs.Option.{option_map}
use Rattle.interfaces.specs.declared.code.Code.{Code}
use Rattle.interfaces.specs.declared.code.Code.TheVariants.{Range}
use Rattle.interfaces.specs.declared.fault.Refusal.{Refusal}
use Rattle.interfaces.specs.Checks.{first, meant, refused_with, unless}
use Rattle.interfaces.specs.Faults.{call_refusal}
use Rattle.interfaces.specs.Hashing.{Hashing, digest_length}
use Rattle.interfaces.specs.States.{Snapshot}
use Rattle.policy.specs.Reading.{refused_by}
use Rattle.calls.specs.declared.call.Call as code
use Rattle.calls.specs.Views.{call_of}
use Rattle.calls.specs.Calls.{Call, call_flaw, judged_call}
use Rattle.session.specs.Cases.{WorkedSets}
use Rattle.session.specs.Events.{Called}
use Rattle.session.specs.Steps.{Progress, common_set, record_flaw, refusal, state_flaw, stepped, stepped_by, after}

module _ (checked : Bool) (h : Hashing) (s : Snapshot) (p : Progress) (c : Call) where
  pub called_so : (r : Result (Unit {0}) Refusal) (later : Progress) → r ≡ refused_by (refusal checked h s p c) tt → later ≡ stepped checked h s p c → Called checked h s p c r later
  called_so r later a b = record { answer = a; after = b; follows = λ es e. ap (λ x. stepped checked h s x c) e ∙ sym b }

  fields_refuse : (code : Code) → h.size ≡ digest_length → call_flaw digest_length c ≡ Some code → refusal checked h s p c ≡ Some (call_refusal code)
  fields_refuse code long e = ap (λ n. first (option_map call_refusal (call_flaw n c)) (first (option_map call_refusal (record_flaw p c)) (cond checked (state_flaw h s p c) None))) long ∙ ap (λ f. first (option_map call_refusal f) (first (option_map call_refusal (record_flaw p c)) (cond checked (state_flaw h s p c) None))) e

  judged_refuses : (code : Code) → ◌≡◌ {A = Result Call Code} (Err code) (judged_call c) → call_flaw digest_length c ≡ Some code
  judged_refuses code e = go (call_flaw digest_length c) e
    where
      go : (f : Option Code) → ◌≡◌ {A = Result Call Code} (Err code) (refused_with f c) → f ≡ Some code
      go None t = absurd (let z : ◌≡◌ {A = ℕ} 0 1 = cc in omega arith)
      go (Some k) t = (let same : k ≡ code = cc in ap Some same)

  judged_is : (x : Call) → Ok x ≡ judged_call c → x ≡ c
  judged_is x e = go (call_flaw digest_length c) e
    where
      go : (f : Option Code) → Ok x ≡ refused_with f c → x ≡ c
      go None t = (let same : x ≡ c = cc in same)
      go (Some k) t = absurd (let z : ◌≡◌ {A = ℕ} 0 1 = cc in omega arith)

  -- a call whose fields are refused changes nothing
  pub called_refused : (code : Code) → h.size ≡ digest_length → ◌≡◌ {A = Result Call Code} (Err code) (judged_call c) → Called checked h s p c (Err (call_refusal code)) p
  called_refused code long e =
      let no = fields_refuse code long (judged_refuses code e) in
      called_so (Err (call_refusal code)) p (sym (ap (λ f. refused_by f tt) no)) (sym (ap (λ f. stepped_by f (after checked h s p c) p) no))

  -- the same of a call that could not be made from its fields
  pub called_unmade : (made : Result code.Call Code) (q : Result (Unit {0}) Refusal) → h.size ≡ digest_length → ((x : code.Call) → made ≡ Ok x → ⊥) → ((k : Code) → made ≡ Err k → q ≡ Err (call_refusal k)) → meant call_of made ≡ judged_call c → Called checked h s p c q p
  called_unmade (Ok x) q long made says e = absurd (made x refl)
  called_unmade (Err k) q long made says e = subst (λ r. Called checked h s p c r p) (sym (says k refl)) (called_refused k long e)

  -- and of one that was made
  pub called_made : (made : Result code.Call Code) (call : code.Call) (r : Result (Unit {0}) Refusal) (later : Progress) → made ≡ Ok call → r ≡ refused_by (refusal checked h s p (call_of call)) tt → later ≡ stepped checked h s p (call_of call) → meant call_of made ≡ judged_call c → Called checked h s p c r later
  called_made made call r later is answer step e =
      let same = judged_is (call_of call) (sym (ap (meant call_of) is) ∙ e) in
      called_so r later (answer ∙ ap (λ x. refused_by (refusal checked h s p x) tt) same) (step ∙ ap (stepped checked h s p) same)

pub worked_sets : WorkedSets
worked_sets = (refl, λ p e. ap (λ o. unless (not (eqb (common_set o 0x02) 0)) Range) e)
