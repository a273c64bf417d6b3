-- Laws of the order of checks, and of joining an `or`.
use Rattle.std.proofs.Common.{◌≡◌, ℕ, ◌≤◌, Bool, true, cond, List, length, is_ok, Some, None, Ok, Err, Option, Result, refl, ap, ◌∙◌, arith}
use Rattle.std.specs.Option.{option_map}
use Rattle.interfaces.specs.declared.code.Code.{Code}
use Rattle.interfaces.specs.declared.digest.Digest.{Digest}
use Rattle.interfaces.specs.Checks.{first, meant, refused_with}
use Rattle.interfaces.specs.Faults.{call_refusal}
use Rattle.interfaces.specs.Hashing.{Hashing, digest_length}
use Rattle.interfaces.specs.States.{Snapshot}
use Rattle.policy.specs.Strings.{join_answer}
use Rattle.policy.specs.Views.{digest_bytes}
use Rattle.policy.proofs.Joins.{join_some}
use Rattle.calls.specs.Calls.{Call, call_flaw}
use Rattle.session.specs.Steps.{Progress, record_flaw, refusal, state_flaw}

-- a check that answers nothing has passed
pub passed : (f : Option Code) → ◌≡◌ {A = Result (Unit {0}) Code} (Ok tt) (refused_with f tt) → f ≡ None
passed None e = refl
passed (Some c) e = absurd (let z : ◌≡◌ {A = ℕ} 0 1 = cc in omega arith)

-- once fields and records pass, the state decides, in a policy session
pub left_to_state : (checked : Bool) (h : Hashing) (s : Snapshot) (p : Progress) (c : Call) → h.size ≡ digest_length → call_flaw digest_length c ≡ None → record_flaw p c ≡ None → refusal checked h s p c ≡ cond checked (state_flaw h s p c) None
left_to_state checked h s p c long fields records =
    let sound : call_flaw h.size c ≡ None = ap (λ n. call_flaw n c) long ∙ fields in
    λ i. first (option_map call_refusal (sound i)) (first (option_map call_refusal (records i)) (cond checked (state_flaw h s p c) None))

pub joins : (h : Hashing) (ds : List (List ℕ)) (r : Result Digest Code) → 2 ≤ length ds → length ds ≤ 8 → meant digest_bytes r ≡ join_answer h ds → is_ok r ≡ true
joins h ds (Ok d) a b e = refl
joins h ds (Err c) a b e = absurd (let some = join_some h ds a b in let z : ◌≡◌ {A = ℕ} 0 1 = cc in omega arith)
