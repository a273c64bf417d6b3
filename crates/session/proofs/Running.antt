-- Laws of runs, line by line.
use Rattle.std.proofs.Common.{◌≡◌, ℕ, suc, ◌+◌, Bool, true, false, List, ◌∷◌, length, Some, None, Ok, Err, Option, Result, sym, refl, ap, ◌∙◌, arith}
use Rattle.std.proofs.lemmas.Bool.{cond-false, cond-true}
use Rattle.interfaces.specs.declared.code.Code.TheVariants.{Size}
use Rattle.interfaces.specs.declared.fault.Fault.{Fault}
use Rattle.interfaces.specs.declared.fault.Refusal.{Refusal}
use Rattle.interfaces.specs.Faults.{fault_at, text_refusal}
use Rattle.interfaces.specs.Hashing.{Hashing}
use Rattle.interfaces.specs.States.{Snapshot}
use Rattle.policy.specs.Reading.{refused_by}
use Rattle.text.specs.Cut.{lines}
use Rattle.session.specs.Events.{Ran}
use Rattle.session.specs.Runs.{line_after, line_refusal, lines_after, lines_answer, or_fault, run_after, run_answer, run_fits, unless_refused}
use Rattle.session.specs.Steps.{Progress}

-- what an answer tells of a refusal
pub refused_by_lem : (f : Option Refusal) (e : Refusal) → ◌≡◌ {A = Result (Unit {0}) Refusal} (Err e) (refused_by f tt) → f ≡ Some e
refused_by_lem None e t = absurd (let z : ◌≡◌ {A = ℕ} 0 1 = cc in omega arith)
refused_by_lem (Some x) e t = (let same : x ≡ e = cc in ap Some same)

pub accepted_by : (f : Option Refusal) → ◌≡◌ {A = Result (Unit {0}) Refusal} (Ok tt) (refused_by f tt) → f ≡ None
accepted_by None t = refl
accepted_by (Some x) t = absurd (let z : ◌≡◌ {A = ℕ} 0 1 = cc in omega arith)

module _ (checked : Bool) (h : Hashing) (s : Snapshot) (n : ℕ) (line : List ℕ) (more : List (List ℕ)) (p : Progress) where
  pub answer_refused : (e : Refusal) → line_refusal checked h s p line ≡ Some e → lines_answer checked h s n (line ∷ more) p ≡ Err (fault_at (suc n) e)
  answer_refused e f = ap (λ o. or_fault checked h s (suc n) o (lines_answer checked h s (suc n) more (line_after checked h s p line))) f

  pub after_refused : (e : Refusal) → line_refusal checked h s p line ≡ Some e → lines_after checked h s (line ∷ more) p ≡ line_after checked h s p line
  after_refused e f = ap (λ o. unless_refused checked h s o (lines_after checked h s more (line_after checked h s p line)) (line_after checked h s p line)) f

  pub answer_accepted : line_refusal checked h s p line ≡ None → lines_answer checked h s n (line ∷ more) p ≡ lines_answer checked h s (suc n) more (line_after checked h s p line)
  answer_accepted f = ap (λ o. or_fault checked h s (suc n) o (lines_answer checked h s (suc n) more (line_after checked h s p line))) f

  pub after_accepted : line_refusal checked h s p line ≡ None → lines_after checked h s (line ∷ more) p ≡ lines_after checked h s more (line_after checked h s p line)
  after_accepted f = ap (λ o. unless_refused checked h s o (lines_after checked h s more (line_after checked h s p line)) (line_after checked h s p line)) f

-- in the midst of a run: what the lines that are left come to is what all of them come to
pub record Going (checked : Bool) (h : Hashing) (s : Snapshot) (text : List ℕ) (first : Progress) (rest : List ℕ) (count : ℕ) (p : Progress) : Type 0 where
  pub counted : count + length (lines rest) ≡ length (lines text)
  pub answer : lines_answer checked h s count (lines rest) p ≡ lines_answer checked h s 0 (lines text) first
  pub after : lines_after checked h s (lines rest) p ≡ lines_after checked h s (lines text) first

module _ (checked : Bool) (h : Hashing) (s : Snapshot) (text : List ℕ) (p : Progress) where
  ran_so : (r : Result ℕ Fault) (later : Progress) → r ≡ run_answer checked h s text p → later ≡ run_after checked h s text p → Ran checked h s p text r later
  ran_so r later a b = record { answer = a; after = b; follows = λ es e. ap (run_after checked h s text) e ∙ sym b }

  pub ran_unfit : (r : Result ℕ Fault) → run_fits text ≡ false → r ≡ Err (fault_at 0 (text_refusal Size)) → Ran checked h s p text r p
  ran_unfit r f e = ran_so r p (e ∙ sym (cond-false _ _ _ f)) (sym (cond-false _ _ _ f))

  pub ran_fit : (r : Result ℕ Fault) (later : Progress) → run_fits text ≡ true → r ≡ lines_answer checked h s 0 (lines text) p → later ≡ lines_after checked h s (lines text) p → Ran checked h s p text r later
  ran_fit r later f a b = ran_so r later (a ∙ sym (cond-true _ _ _ f)) (b ∙ sym (cond-true _ _ _ f))

-- one line of a run, made on a session whose kind and hash are those of the first
module _ (checked now : Bool) (h k : Hashing) (s : Snapshot) (text : List ℕ) (first : Progress) (rest line more : List ℕ) (count : ℕ) (p later : Progress) (r : Result (Unit {0}) Refusal) (same-kind : now ≡ checked) (same-hash : k ≡ h) (next : lines rest ≡ line ∷ lines more) (here : Going checked h s text first rest count p) (answer : r ≡ refused_by (line_refusal now k s p line) tt) (after : later ≡ line_after now k s p line) where
  answer-is : r ≡ refused_by (line_refusal checked h s p line) tt
  answer-is = answer ∙ (λ i. refused_by (line_refusal (same-kind i) (same-hash i) s p line) tt)

  after-is : later ≡ line_after checked h s p line
  after-is = after ∙ (λ i. line_after (same-kind i) (same-hash i) s p line)

  pub going_more : (j : ℕ) → r ≡ Ok tt → j ≡ count + 1 → Going checked h s text first more j later
  going_more j ok up =
      let accepted = accepted_by (line_refusal checked h s p line) (sym ok ∙ answer-is) in
      let one : j ≡ suc count = omega arith in
      record {
        counted = omega (arith, here.counted, ap length next);
        answer = (λ i. lines_answer checked h s (one i) (lines more) (after-is i)) ∙ sym (answer_accepted checked h s count line (lines more) p accepted) ∙ sym (ap (λ ls. lines_answer checked h s count ls p) next) ∙ here.answer;
        after = ap (lines_after checked h s (lines more)) after-is ∙ sym (after_accepted checked h s count line (lines more) p accepted) ∙ sym (ap (λ ls. lines_after checked h s ls p) next) ∙ here.after;
      }

  stopped-at : (x : Refusal) (q : Result ℕ Fault) → r ≡ Err x → q ≡ Err (fault_at (count + 1) x) → run_fits text ≡ true → Ran checked h s first text q later
  stopped-at x q e fault fit =
      let refused = refused_by_lem (line_refusal checked h s p line) x (sym e ∙ answer-is) in
      let one : count + 1 ≡ suc count = omega arith in
      ran_fit checked h s text first q later fit
      (fault ∙ ap (λ n. Err (fault_at n x)) one ∙ sym (answer_refused checked h s count line (lines more) p x refused) ∙ sym (ap (λ ls. lines_answer checked h s count ls p) next) ∙ here.answer)
      (after-is ∙ sym (after_refused checked h s count line (lines more) p x refused) ∙ sym (ap (λ ls. lines_after checked h s ls p) next) ∙ here.after)

  pub going_stopped : (q : Result ℕ Fault) → (r ≡ Ok tt → ⊥) → ((x : Refusal) → r ≡ Err x → q ≡ Err (fault_at (count + 1) x)) → run_fits text ≡ true → Ran checked h s first text q later
  going_stopped q bad fault fit = by r refl
    where
      by : (o : Result (Unit {0}) Refusal) → r ≡ o → Ran checked h s first text q later
      by (Ok u) e = absurd (bad e)
      by (Err x) e = stopped-at x q e (fault x e) fit
