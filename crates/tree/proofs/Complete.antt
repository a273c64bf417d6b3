-- A policy text that writes down a sound tree is accepted, and builds that tree alone.
use Rattle.std.proofs.Common.{◌≡◌, ℕ, suc, ◌+◌, ◌≤◌, List, [], ◌∷◌, ◌++◌, map, length, Some, None, Ok, Err, sym, refl, ap, ◌∙◌, add-zero, add-one, arith}
use Rattle.std.specs.Option.{option_map}
use Rattle.std.proofs.lemmas.List.{append-nil, append_assoc, map-append, length-append, length-map, length_push, take_at, drop_at, get_or_at}
use Rattle.std.proofs.lemmas.Bool.Decides.{nat_tests}
use Rattle.interfaces.specs.declared.fault.Fault.{Fault}
use Rattle.interfaces.specs.Faults.{call_refusal}
use Rattle.text.specs.Cut.{lines}
use Rattle.policy.specs.Assertions.{Assertion}
use Rattle.policy.specs.Lines.{Line, start, any, extend, shown, Holds, line_flaw, fewest_trees, most_trees}
use Rattle.policy.specs.Reading.{judged, read_line, refused_by}
use Rattle.policy.proofs.ReadsLines.{parse-shown}
use Rattle.tree.specs.Stacks.{stacked, grown, forest, tree_figure}
use Rattle.tree.specs.Texts.{text_limit, line_limit, built, Builds}
use Rattle.tree.specs.Trees.{Tree, leaf, step, choice, Forest, nil, cons, trees, tree_lines, forest_lines, Formed, FormedAll}

-- a forest's trees, lowest first: it is the forest of these, and has as many
abbrev pub listed : Forest → List Tree
listed nil = []
listed (cons t f) = t ∷ listed f

forest_listed : (f : Forest) → forest (listed f) ≡ f
forest_listed nil = refl
forest_listed (cons t f) = ap (cons t) (forest_listed f)

length_listed : (f : Forest) → length (listed f) ≡ trees f
length_listed nil = refl
length_listed (cons t f) = ap suc (length_listed f)

-- an assertion after the tree on top of the stack ts
step-stacked : (ts : List Tree) (t : Tree) (a : Assertion) → stacked tree_figure (extend a) (ts ++ t ∷ []) ≡ Some (ts ++ step t a ∷ [])
step-stacked ts t a = grind (arith, nat_tests, length_push, take_at, get_or_at)

-- a choice among the top trees
choice-stacked : (ts : List Tree) (f : Forest) → stacked tree_figure (any (trees f)) (ts ++ listed f) ≡ Some (ts ++ choice f ∷ [])
choice-stacked ts f = grind (arith, nat_tests, length-append, length_listed, take_at, drop_at, forest_listed)

-- a choice among two to eight trees passes as a line
choice_passes : (size n : ℕ) → fewest_trees ≤ n → n ≤ most_trees → line_flaw size (any n) ≡ None
choice_passes size n low high = grind (arith, nat_tests)

-- the lines ls, as written, make the stack us of the stack ts, behind any n lines and whatever
-- follows them
abbrev pub Grows : ℕ → List Line → List Tree → List Tree → Type 0
Grows size ls ts us = (n : ℕ) (rest : List (List ℕ)) → grown tree_figure size n (map shown ls ++ rest) ts ≡ grown tree_figure size (n + length ls) rest us

module _ (size : ℕ) where
  -- a line that passes its checks and finds its trees on the stack
  grows_line : (l : Line) (ts us : List Tree) → Holds l → line_flaw size l ≡ None → stacked tree_figure l ts ≡ Some us → Grows size (l ∷ []) ts us
  grows_line l ts us h c e n rest =
      let read : read_line size (shown l) ≡ Ok l = ap (judged (line_flaw size)) (parse-shown l h) ∙ ap (λ o. refused_by o l) c in
      rw (read, e, add-one)

  -- some lines and then others
  grows_then : (ls ks : List Line) (ts us vs : List Tree) → Grows size ls ts us → Grows size ks us vs → Grows size (ls ++ ks) ts vs
  grows_then ls ks ts us vs g h n rest =
      let count : n + length ls + length ks ≡ n + length (ls ++ ks) = omega (arith, length-append ls ks) in
      ap (λ k. grown tree_figure size n k ts) (ap (λ k. k ++ rest) (map-append shown ls ks) ∙ append_assoc (map shown ls) (map shown ks) rest)
      ∙ g n (map shown ks ++ rest) ∙ h (n + length ls) rest ∙ ap (λ k. grown tree_figure size k rest vs) count

-- the lines of a sound tree put the tree on the stack, and those of a forest its trees
mutual
  pub grown_complete : (t : Tree) (size : ℕ) → Formed size t → (ts : List Tree) → Grows size (tree_lines t) ts (ts ++ t ∷ [])
  grown_complete leaf size f ts = grows_line size start ts (ts ++ leaf ∷ []) tt refl refl
  grown_complete (step t a) size f ts =
      let line = grows_line size (extend a) (ts ++ t ∷ []) (ts ++ step t a ∷ []) f.1 (ap (option_map call_refusal) f.2) (step-stacked ts t a) in
      grows_then size (tree_lines t) (extend a ∷ []) ts (ts ++ t ∷ []) (ts ++ step t a ∷ []) (grown_complete t size f.0 ts) line
  grown_complete (choice g) size f ts =
      let line = grows_line size (any (trees g)) (ts ++ listed g) (ts ++ choice g ∷ []) (omega arith) (choice_passes size (trees g) f.1 f.2) (choice-stacked ts g) in
      grows_then size (forest_lines g) (any (trees g) ∷ []) ts (ts ++ listed g) (ts ++ choice g ∷ []) (forest_complete g size f.0 ts) line

  pub forest_complete : (g : Forest) (size : ℕ) → FormedAll size g → (ts : List Tree) → Grows size (forest_lines g) ts (ts ++ listed g)
  forest_complete nil size f ts = λ n rest. rw (append-nil, add-zero)
  forest_complete (cons t g) size f ts =
      let us = ts ++ t ∷ [] in
      rw (← append_assoc ts (t ∷ []) (listed g)) (grows_then size (tree_lines t) (forest_lines g) ts us (us ++ listed g) (grown_complete t size f.0 ts) (forest_complete g size f.1 us))

-- every tree has a line
pub lines_some : (t : Tree) → 1 ≤ length (tree_lines t)
lines_some leaf = omega arith
lines_some (step t a) = omega (arith, length_push (tree_lines t) (extend a))
lines_some (choice f) = omega (arith, length_push (forest_lines f) (any (trees f)))

-- a text of an allowed size is accepted where its lines leave one tree
accepted : (size : ℕ) (text : List ℕ) (t : Tree) → length text ≤ text_limit → 1 ≤ length (lines text) → length (lines text) ≤ line_limit → grown tree_figure size 0 (lines text) [] ≡ Ok (t ∷ []) → built size text ≡ Ok t
accepted size text t short some few e = grind (arith, nat_tests)

-- a text that writes down a sound tree is accepted, and builds it
pub built_complete : (size : ℕ) (text : List ℕ) (t : Tree) → Builds size text t → built size text ≡ Ok t
built_complete size text t b =
    let some : 1 ≤ length (lines text) = omega (arith, ap length b.written, length-map (tree_lines t) shown, lines_some t) in
    let whole = b.written ∙ sym (append-nil (map shown (tree_lines t))) in
    accepted size text t b.short some b.few (ap (λ k. grown tree_figure size 0 k []) whole ∙ grown_complete t size b.formed [] 0 [])

-- a text writes down one sound tree at most
pub built-once : (size : ℕ) (text : List ℕ) (t u : Tree) → Builds size text t → Builds size text u → t ≡ u
built-once size text t u b c = cc (built_complete size text t b, built_complete size text u c)

-- a text that is refused writes down no sound tree
pub refused : (size : ℕ) (text : List ℕ) (e : Fault) → built size text ≡ Err e → (t : Tree) → Builds size text t → ⊥
refused size text e r t b =
    let ok = built_complete size text t b in
    cc
