-- The stack of digests is that of the trees' digests, line by line, and branches are counted at
-- each start.
use Rattle.std.proofs.Common.{◌≡◌, ℕ, ◌+◌, ◌-◌, ◌≤◌, Bool, true, false, cond, List, [], ◌∷◌, ◌++◌, map, length, get_or, take, drop, Some, None, refl, ap, arith, take-append-drop}
use Rattle.std.specs.Option.{option_map}
use Rattle.std.proofs.lemmas.List.{map_push, length-map, length-append, take-map, drop-map, drop_more, drop_all}
use Rattle.std.proofs.lemmas.Bool.Decides.{nat_tests}
use Rattle.std.proofs.lemmas.Grind.{common_steps}
use Rattle.std.proofs.lemmas.List.Sums.{sum_by-append, sum_by-cons}
use Rattle.std.proofs.Math.ListN.{get_or-map}
use Rattle.interfaces.specs.Hashing.{Hashing}
use Rattle.policy.specs.Lines.{Line, start, any, extend}
use Rattle.tree.specs.Stacks.{Figure, stacked, forest, tree_figure, digest_figure}
use Rattle.tree.specs.Trees.{Tree, leaf, branches, forest_branches, tree_digest, forest_digests}
use Rattle.tree.specs.Views.{all_branches, starts}

forest_digests_lem : (h : Hashing) (ts : List Tree) → forest_digests h (forest ts) ≡ map (tree_digest h) ts
forest_digests_lem h [] = refl
forest_digests_lem h (t ∷ ts) = ap (λ l. tree_digest h t ∷ l) (forest_digests_lem h ts)

-- the choice of a value, and what becomes of it
cond_map : {X Y : Type 0} (f : X → Y) (b : Bool) (x : X) → option_map f (cond b (Some x) None) ≡ cond b (Some (f x)) None
cond_map f true x = refl
cond_map f false x = refl

-- a line takes the digests of trees to the digests of the trees that it makes of them
pub stacked_digests : (h : Hashing) (l : Line) (ts : List Tree) → stacked (digest_figure h) l (map (tree_digest h) ts) ≡ option_map (map (tree_digest h)) (stacked tree_figure l ts)
stacked_digests h start ts = simp map_push
stacked_digests h (extend a) ts = simp (length-map, take-map, get_or-map (tree_digest h) ts (length ts - 1) leaf, map_push, cond_map)
stacked_digests h (any n) ts = simp (length-map, take-map, drop-map, forest_digests_lem, map_push, cond_map)

forest-branches : (ts : List Tree) → length (forest_branches (forest ts)) ≡ all_branches ts
forest-branches [] = refl
forest-branches (t ∷ ts) = omega (arith, length-append (branches t) (forest_branches (forest ts)), forest-branches ts, sum_by-cons (λ t. length (branches t)) t ts)

-- the trees that a line takes have as many branches as the one that it leaves
replaced-branches : (ts : List Tree) (i : ℕ) (t : Tree) → length (branches t) ≡ all_branches (drop i ts) → all_branches (take i ts ++ t ∷ []) ≡ all_branches ts
replaced-branches ts i t e =
    omega (arith, sum_by-append (λ t. length (branches t)) (take i ts) (t ∷ []), sum_by-append (λ t. length (branches t)) (take i ts) (drop i ts), ap all_branches (take-append-drop i ts))

last_tree : (ts : List Tree) → 1 ≤ length ts → drop (length ts - 1) ts ≡ get_or ts (length ts - 1) leaf ∷ []
last_tree ts some = grind (arith, common_steps, drop_more, drop_all)

-- a line raises the number of branches by those that it begins
pub stacked-branches : (l : Line) (ts us : List Tree) → stacked tree_figure l ts ≡ Some us → all_branches us ≡ all_branches ts + starts l
stacked-branches l ts us e = grind (arith, nat_tests, common_steps, replaced-branches, last_tree, forest-branches, length-map, sum_by-append, sum_by-cons)

-- a line makes one tree more at most
pub stacked_high : {A : Type 0} (F : Figure A) (l : Line) (s s' : List A) → stacked F l s ≡ Some s' → length s' ≤ length s + 1
stacked_high F l s s' e = grind (arith, nat_tests, common_steps)
