-- Policy trees: their branches, their digests and their lines.
use Rattle.std.specs.Prelude.{◌≡◌, ℕ, suc, ◌≤◌, List, [], ◌∷◌, ◌++◌, map, None}
use Rattle.interfaces.specs.Hashing.{Hashing, zeros}
use Rattle.policy.specs.Assertions.{Assertion}
use Rattle.policy.specs.Checks.{flaw}
use Rattle.policy.specs.Lines.{Line, start, any, extend, HoldsAssertion, fewest_trees, most_trees}
use Rattle.policy.specs.Strings.{extended, joined_digest}

-- A tree asks nothing yet, or asks an assertion after another tree, or offers the alternatives of a
-- forest, lowest first.
mutual
  pub data Tree : Type 0 where
    leaf : Tree
    step : Tree → Assertion → Tree
    choice : Forest → Tree

  pub data Forest : Type 0 where
    nil : Forest
    cons : Tree → Forest → Forest

-- The branches of a tree, each the assertions that it asks in their order: the lowest
-- alternative's first.
abbrev mutual
  pub branches : Tree → List (List Assertion)
  branches leaf = [] ∷ []
  branches (step t a) = map (λ b. b ++ a ∷ []) (branches t)
  branches (choice f) = forest_branches f

  pub forest_branches : Forest → List (List Assertion)
  forest_branches nil = []
  forest_branches (cons t f) = branches t ++ forest_branches f

-- A tree's digest: zeros at first, extended by each assertion, joined at each choice.
abbrev mutual
  pub tree_digest : Hashing → Tree → List ℕ
  tree_digest h leaf = zeros h
  tree_digest h (step t a) = extended h (tree_digest h t) a
  tree_digest h (choice f) = joined_digest h (forest_digests h f)

  pub forest_digests : Hashing → Forest → List (List ℕ)
  forest_digests h nil = []
  forest_digests h (cons t f) = tree_digest h t ∷ forest_digests h f

abbrev pub trees : Forest → ℕ
trees nil = 0
trees (cons t f) = suc (trees f)

-- The lines of a policy text that builds the tree: what a line works on stands before it.
abbrev mutual
  pub tree_lines : Tree → List Line
  tree_lines leaf = start ∷ []
  tree_lines (step t a) = tree_lines t ++ extend a ∷ []
  tree_lines (choice f) = forest_lines f ++ any (trees f) ∷ []

  pub forest_lines : Forest → List Line
  forest_lines nil = []
  forest_lines (cons t f) = tree_lines t ++ forest_lines f

-- Every assertion passes its own checks, where digests have `size` bytes, and every choice is
-- among 2 to 8 trees.
abbrev mutual
  pub Formed : ℕ → Tree → Type 0
  Formed size leaf = Unit {0}
  Formed size (step t a) = Formed size t × HoldsAssertion a × (flaw size a ≡ None)
  Formed size (choice f) = FormedAll size f × (fewest_trees ≤ trees f) × (trees f ≤ most_trees)

  pub FormedAll : ℕ → Forest → Type 0
  FormedAll size nil = Unit {0}
  FormedAll size (cons t f) = Formed size t × FormedAll size f
