-- Laws of the checks of an assertion.
use Rattle.std.proofs.Common.{◌≡◌, ℕ, ◌+◌, ◌≤◌, Bool, List, length, take, drop, Some, None, Ok, Err, Option, Result, sym, ap, ◌∙◌, arith}
use Rattle.std.specs.Option.{option_map}
use Rattle.std.specs.Result.{MatchResult, IsErrAnd}
use Rattle.std.proofs.lemmas.Bool.{cond-true, le-leb}
use Rattle.interfaces.specs.declared.code.Code.{Code}
use Rattle.interfaces.specs.declared.code.Code.TheVariants.{Policy}
use Rattle.interfaces.specs.declared.fault.Refusal.{Refusal}
use Rattle.interfaces.specs.Checks.{first, unless, refused_with}
use Rattle.interfaces.specs.Faults.{call_refusal}
use Rattle.policy.specs.Assertions.{Comparison}
use Rattle.policy.specs.Reading.{refused_by}
use Rattle.conditions.specs.Comparing.{compares}
use Rattle.conditions.specs.Meeting.{comparison_unmet}

-- a comparison of a part that is within the value
pub compared : (past : Code) (value : List ℕ) (k : Comparison) (operand : List ℕ) (n : ℕ) (t : Bool) → operand ≡ k.operand → n ≡ length operand → k.offset + length operand ≤ length value → t ≡ compares k.operation (take n (drop k.offset value)) operand → comparison_unmet past value k ≡ unless t Policy
compared past value k operand n t same long within told =
    let size = long ∙ ap length same in
    let fits = le-leb (k.offset + length k.operand) (length value) (omega (arith, ap length same)) in
    let holds : compares k.operation (take (length k.operand) (drop k.offset value)) k.operand ≡ t = sym (told ∙ (λ i. compares k.operation (take (size i) (drop k.offset value)) (same i))) in
    λ i. first (cond-true _ None (Some past) fits i) (unless (holds i) Policy)

-- a check's refusal, reported as the call's
pub called : (f : Option Code) (r : Result (Unit {0}) Code) (s : Result (Unit {0}) Refusal) → r ≡ refused_with f tt → MatchResult r (λ x. s ≡ Ok x) (λ c. IsErrAnd s (λ e. e ≡ call_refusal c)) → s ≡ refused_by (option_map call_refusal f) tt
called None (Ok x) s told m = m
called None (Err c) s told m = cc
called (Some d) (Ok x) s told m = cc
called (Some d) (Err c) (Ok x) told m = absurd m
called (Some d) (Err c) (Err e) told m = cc
