-- The loop over a text's lines: what the rest of the lines makes of the stack is what all of them
-- make of the empty one.
use Rattle.std.proofs.Common.{◌≡◌, ℕ, suc, ◌+◌, ◌≤◌, List, [], ◌∷◌, length, Ok, Err, Result, sym, refl, ap, ◌∙◌, add-one, arith}
use Rattle.interfaces.specs.Checks.{meant}
use Rattle.interfaces.specs.declared.fault.Fault.{Fault}
use Rattle.interfaces.specs.declared.fault.Refusal.{Refusal}
use Rattle.interfaces.specs.Faults.{fault_at}
use Rattle.interfaces.specs.Hashing.{Hashing, digest_length}
use Rattle.policy.specs.Lines.{Line}
use Rattle.policy.specs.Reading.{read_line}
use Rattle.text.specs.Cut.{lines}
use Rattle.tree.specs.declared.stack.Stack.{Stack}
use Rattle.tree.specs.Stacks.{on_stack, line_step, followed, grown, tree_figure}
use Rattle.tree.specs.Trees.{Tree}
use Rattle.tree.specs.Views.{all_branches, Took, shows, shows_of}
use Rattle.tree.proofs.Homs.{stacked_digests, stacked-branches, stacked_high}

pub record Along (h : Hashing) (text rest : List ℕ) (count : ℕ) (stack : Stack) : Type 0 where
  pub built : List Tree
  pub whole : grown tree_figure digest_length count (lines rest) built ≡ grown tree_figure digest_length 0 (lines text) []
  pub counted : count + length (lines rest) ≡ length (lines text)
  pub shown : shows stack ≡ shows_of h built
  pub high : length built ≤ count
  pub broad : all_branches built ≤ count

-- before the first line, over the empty stack
pub along_none : (h : Hashing) (text : List ℕ) (stack : Stack) → shows stack ≡ ([], 0) → Along h text text 0 stack
along_none h text stack empty = record { built = []; whole = refl; counted = omega arith; shown = empty; high = omega arith; broad = omega arith }

-- and after the last
pub along_all : (h : Hashing) (text rest : List ℕ) (count : ℕ) (stack : Stack) → lines rest ≡ [] → Along h text rest count stack → Ok (shows stack) ≡ meant (shows_of h) (grown tree_figure digest_length 0 (lines text) [])
along_all h text rest count stack none here =
    ap Ok here.shown ∙ ap (meant (shows_of h)) (sym (ap (λ ls. grown tree_figure digest_length count ls here.built) none) ∙ here.whole)

-- a line did to the digests of the trees ts what it does to the trees: it made one tree more at
-- most, and one branch
took_line : (h : Hashing) (line : Result Line Refusal) (ts : List Tree) (before after : Stack) → shows before ≡ shows_of h ts → Took h line before (Ok tt) after → (us : List Tree) × (on_stack tree_figure line ts ≡ Ok us) × (shows after ≡ shows_of h us) × (length us ≤ length ts + 1) × (all_branches us ≤ all_branches ts + 1)
took_line h line ts before after s t = grind (arith, stacked_digests, stacked-branches, stacked_high)

-- and it was refused where it is for the trees
took_none : (h : Hashing) (line : Result Line Refusal) (ts : List Tree) (before after : Stack) (x : Refusal) → shows before ≡ shows_of h ts → Took h line before (Err x) after → on_stack tree_figure line ts ≡ Err x
took_none h line ts before after x s t = grind (arith, stacked_digests)

module _ (h : Hashing) (text rest line after : List ℕ) (count : ℕ) (stack : Stack) (next : lines rest ≡ line ∷ lines after) (here : Along h text rest count stack) where
  -- all lines make of the empty stack what the line and those after it make of this one
  goes : (s : Result (List Tree) Refusal) → line_step tree_figure digest_length line here.built ≡ s → grown tree_figure digest_length 0 (lines text) [] ≡ followed (suc count) s (λ ts. grown tree_figure digest_length (suc count) (lines after) ts)
  goes s e = sym here.whole ∙ ap (λ ls. grown tree_figure digest_length count ls here.built) next ∙ ap (λ r. followed (suc count) r (λ ts. grown tree_figure digest_length (suc count) (lines after) ts)) e

  -- the line was taken
  pub along_more : (stack' : Stack) (r : Result (Unit {0}) Refusal) (j : ℕ) → Took h (read_line digest_length line) stack r stack' → r ≡ Ok tt → j ≡ count + 1 → Along h text after j stack'
  along_more stack' r j took ok up =
      let t = took_line h (read_line digest_length line) here.built stack stack' here.shown (rw ok at took) in
      record {
        built = t.0;
        whole = ap (λ n. grown tree_figure digest_length n (lines after) t.0) (up ∙ add-one count) ∙ sym (goes (Ok t.0) t.1);
        counted = omega (arith, here.counted, ap length next);
        shown = t.2;
        high = omega (arith, here.high, t.3);
        broad = omega (arith, here.broad, t.4);
      }

  -- the line was refused, and the answer q is its fault
  pub along_stopped : {X : Type 0} (v : X → List (List ℕ) × ℕ) (stack' : Stack) (r : Result (Unit {0}) Refusal) (q : Result X Fault) → Took h (read_line digest_length line) stack r stack' → (r ≡ Ok tt → ⊥) → ((x : Refusal) → r ≡ Err x → q ≡ Err (fault_at (count + 1) x)) → meant v q ≡ meant (shows_of h) (grown tree_figure digest_length 0 (lines text) [])
  along_stopped v stack' (Ok u) q took bad fault = absurd (bad refl)
  along_stopped v stack' (Err x) q took bad fault =
      rw (fault x refl, goes (Err x) (took_none h (read_line digest_length line) here.built stack stack' x here.shown took), add-one)
