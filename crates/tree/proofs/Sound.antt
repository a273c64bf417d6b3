-- A policy text that is accepted writes down the tree that it builds, and the tree is sound.
use Rattle.std.proofs.Common.{◌≡◌, ℕ, suc, ◌-◌, ◌≤◌, leb, List, [], ◌∷◌, ◌++◌, map, length, get_or, take, drop, Some, None, Ok, Err, Option, Result, sym, refl, ap, ◌∙◌, subst, arith}
use Rattle.std.specs.Option.{option_map}
use Rattle.std.proofs.lemmas.List.{append-nil, append_assoc, map-append, length-drop, take_all, take_more, take-append-drop}
use Rattle.std.proofs.lemmas.Option.{cond_some}
use Rattle.std.proofs.lemmas.Bool.{leb-true}
use Rattle.std.proofs.lemmas.Bool.Decides.{nat_tests}
use Rattle.interfaces.specs.declared.code.Code.{Code}
use Rattle.interfaces.specs.declared.fault.Refusal.{Refusal}
use Rattle.interfaces.specs.declared.fault.Fault.{Fault}
use Rattle.interfaces.specs.Faults.{call_refusal}
use Rattle.text.specs.Cut.{lines}
use Rattle.policy.specs.Checks.{flaw}
use Rattle.policy.specs.Lines.{Line, start, any, extend, shown, Holds, line_flaw, fewest_trees, most_trees}
use Rattle.policy.specs.Reading.{read_line, Reads}
use Rattle.policy.proofs.ReadsLines.{reads}
use Rattle.tree.specs.Stacks.{Figure, stacked, on_stack, line_step, followed, grown, single, forest, tree_figure}
use Rattle.tree.specs.Texts.{text_limit, line_limit, built, Builds}
use Rattle.tree.specs.Trees.{Tree, leaf, step, choice, trees, tree_lines, forest_lines, Formed, FormedAll}

-- a forest has as many trees as it was made of
trees-forest : (ts : List Tree) → trees (forest ts) ≡ length ts
trees-forest [] = refl
trees-forest (t ∷ ts) = ap suc (trees-forest ts)

-- the lines of two stacks, one on the other, stand one behind the other
lines-append : (ts us : List Tree) → forest_lines (forest (ts ++ us)) ≡ forest_lines (forest ts) ++ forest_lines (forest us)
lines-append [] us = refl
lines-append (t ∷ ts) us = ap (λ l. tree_lines t ++ l) (lines-append ts us) ∙ sym (append_assoc (tree_lines t) (forest_lines (forest ts)) (forest_lines (forest us)))

-- sound trees on sound ones are all sound, and so are both parts of sound ones
module _ (size : ℕ) where
  formed-append : (ts us : List Tree) → FormedAll size (forest ts) → FormedAll size (forest us) → FormedAll size (forest (ts ++ us))
  formed-append [] us f g = g
  formed-append (t ∷ ts) us f g = (f.0, formed-append ts us f.1 g)

  formed_parts : (ts us : List Tree) → FormedAll size (forest (ts ++ us)) → FormedAll size (forest ts) × FormedAll size (forest us)
  formed_parts [] us f = (tt, f)
  formed_parts (t ∷ ts) us f =
      let p = formed_parts ts us f.1 in
      ((f.0, p.0), p.1)

-- the stack after a line: it is sound, and the line stands behind those of the stack before
abbrev Put : ℕ → Line → List Tree → List Tree → Type 0
Put size l ts ts' = FormedAll size (forest ts') × (forest_lines (forest ts) ++ l ∷ [] ≡ forest_lines (forest ts'))

-- a tree t in the place of the trees vs, whose lines it ends by one
replaced_put : (size : ℕ) (l : Line) (ts us vs ts' : List Tree) (t : Tree) → us ++ vs ≡ ts → us ++ t ∷ [] ≡ ts' → tree_lines t ≡ forest_lines (forest vs) ++ l ∷ [] → (FormedAll size (forest vs) → Formed size t) → FormedAll size (forest ts) → Put size l ts ts'
replaced_put size l ts us vs ts' t before after ends sound f =
    let p = formed_parts size us vs (rw before f) in
    let below = forest_lines (forest us) in
    let apart = ap (λ k. k ++ l ∷ []) (lines-append us vs) ∙ append_assoc below (forest_lines (forest vs)) (l ∷ []) in
    let together = ap (λ k. below ++ k) (sym ends ∙ sym (append-nil (tree_lines t))) ∙ sym (lines-append us (t ∷ [])) in
    rw (← before, ← after) (formed-append size us (t ∷ []) p.0 (sound p.1, tt), apart ∙ together)

-- the trees that a line may join are two to eight
any_fits : (size n : ℕ) → line_flaw size (any n) ≡ None → (fewest_trees ≤ n) × (n ≤ most_trees)
any_fits size n e = grind (arith, nat_tests)

-- an assertion's line is refused where the assertion is
unflawed : (o : Option Code) → option_map call_refusal o ≡ None → o ≡ None
unflawed o e = grind arith

-- a line that passes its checks leaves a sound stack sound, and stands behind the stack's lines
stacked_sound : (size : ℕ) (l : Line) (ts ts' : List Tree) → Holds l → line_flaw size l ≡ None → stacked tree_figure l ts ≡ Some ts' → FormedAll size (forest ts) → Put size l ts ts'
stacked_sound size start ts ts' h c e f = replaced_put size start ts ts [] ts' leaf (append-nil ts) (cc) refl (λ _. tt) f
stacked_sound size (extend a) ts ts' h c e f =
    let k = length ts - 1 in
    let r = cond_some (leb 1 (length ts)) _ ts' e in
    let some = leb-true 1 (length ts) r.0 in
    let top = get_or ts k leaf in
    let parts = sym (take_more ts k leaf (omega arith)) ∙ take_all _ ts (omega arith) in
    let ends = ap (λ m. m ++ extend a ∷ []) (sym (append-nil (tree_lines top))) in
    replaced_put size (extend a) ts (take k ts) (top ∷ []) ts' (step top a) parts r.1 ends (λ g. (g.0, h, unflawed (flaw size a) c)) f
stacked_sound size (any n) ts ts' h c e f =
    let k = length ts - n in
    let r = cond_some (leb n (length ts)) _ ts' e in
    let some = leb-true n (length ts) r.0 in
    let fits = any_fits size n c in
    let joined = drop k ts in
    let count : trees (forest joined) ≡ n = omega (arith, trees-forest joined, length-drop k ts) in
    let ends = ap (λ m. forest_lines (forest joined) ++ any m ∷ []) count in
    replaced_put size (any n) ts (take k ts) joined ts' (choice (forest joined)) (take-append-drop k ts) r.1 ends (λ g. (g, omega arith, omega arith)) f

-- a line that is refused, or that finds too few trees, leaves no stack
on_stack_ok : {A : Type 0} (F : Figure A) (r : Result Line Refusal) (s s' : List A) → on_stack F r s ≡ Ok s' → (l : Line) × (r ≡ Ok l) × (stacked F l s ≡ Some s')
on_stack_ok F r s s' h = grind arith

-- what follows a line comes of its result
followed_ok : {A B : Type 0} (n : ℕ) (r : Result A Refusal) (next : A → Result B Fault) (y : B) → followed n r next ≡ Ok y → (x : A) × (r ≡ Ok x) × (next x ≡ Ok y)
followed_ok n r next y h = grind arith

-- a text's line that is read is written as the line, and passes its checks
read_line_lem : (size : ℕ) (s : List ℕ) (l : Line) → read_line size s ≡ Ok l → Holds l × (shown l ≡ s) × (line_flaw size l ≡ None)
read_line_lem size s l e =
    let r : Reads size s (Ok l) = subst (Reads size s) e (reads size s) in
    (r.0.holds, r.0.written, r.1)

-- lines that all pass leave a sound stack sound: the lines of its trees are those of the trees
-- before, and then these
pub grown_sound : (size n : ℕ) (ls : List (List ℕ)) (ts ts' : List Tree) → grown tree_figure size n ls ts ≡ Ok ts' → FormedAll size (forest ts) → FormedAll size (forest ts') × (map shown (forest_lines (forest ts)) ++ ls ≡ map shown (forest_lines (forest ts')))
grown_sound size n [] ts ts' e f =
    let same : ts ≡ ts' = cc in
    rw (← same) (f, append-nil _)
grown_sound size n (s ∷ ls) ts ts' e f =
    let q = followed_ok (suc n) (line_step tree_figure size s ts) (grown tree_figure size (suc n) ls) ts' e in
    let p = on_stack_ok tree_figure (read_line size s) ts q.0 q.1 in
    let l = read_line_lem size s p.0 p.1 in
    let put = stacked_sound size p.0 ts q.0 l.0 l.2 p.2 f in
    let rest = grown_sound size (suc n) ls q.0 ts' q.2 put.0 in
    let before = map shown (forest_lines (forest ts)) in
    let this = ap (λ k. before ++ k ∷ []) (sym l.1) ∙ sym (map-append shown (forest_lines (forest ts)) (p.0 ∷ [])) ∙ ap (map shown) put.1 in
    (rest.0, sym (append_assoc before (s ∷ []) ls) ∙ ap (λ k. k ++ ls) this ∙ rest.1)

-- an accepted text has an allowed size, and one tree is left
accepted : (size : ℕ) (text : List ℕ) (t : Tree) → built size text ≡ Ok t → (length text ≤ text_limit) × (length (lines text) ≤ line_limit) × (single tree_figure (length (lines text)) (grown tree_figure size 0 (lines text) []) ≡ Ok t)
accepted size text t e = grind (arith, nat_tests)

single_ok : {A : Type 0} (F : Figure A) (n : ℕ) (r : Result (List A) Fault) (x : A) → single F n r ≡ Ok x → r ≡ Ok (x ∷ [])
single_ok F n (Err e) x h = cc
single_ok F n (Ok []) x h = cc
single_ok F n (Ok (y ∷ [])) x h = cc
single_ok F n (Ok (y ∷ u ∷ s)) x h = grind (arith, nat_tests)

-- an accepted text is the tree that it builds, written down
pub built_sound : (size : ℕ) (text : List ℕ) (t : Tree) → built size text ≡ Ok t → Builds size text t
built_sound size text t e =
    let a = accepted size text t e in
    let g = grown_sound size 0 (lines text) [] (t ∷ []) (single_ok tree_figure (length (lines text)) _ t a.2) tt in
    record { formed = g.0.0; short = a.0; few = a.1; written = g.1 ∙ ap (map shown) (append-nil (tree_lines t)) }
