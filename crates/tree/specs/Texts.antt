-- What a policy text builds.
use Rattle.std.specs.Prelude.{◌≡◌, ℕ, ◌≤◌, Bool, cond, ◌&&◌, List, [], map, length, Err, Result, nat_le}
use Rattle.interfaces.specs.declared.code.Code.TheVariants.{Size}
use Rattle.interfaces.specs.declared.fault.Fault.{Fault}
use Rattle.interfaces.specs.Faults.{text_refusal, fault_at}
use Rattle.text.specs.Cut.{lines}
use Rattle.policy.specs.Lines.{shown}
use Rattle.tree.specs.Stacks.{grown, single, tree_figure}
use Rattle.tree.specs.Trees.{Tree, Formed, tree_lines}

-- The most bytes of a policy text, line feeds counted: 64 lines of 210 bytes.
abbrev pub text_limit : ℕ
text_limit = 13440

abbrev pub line_limit : ℕ
line_limit = 64

-- The text's size is allowed: 1 to 64 lines, and at most 13,440 bytes.
abbrev pub size_fits : List ℕ → Bool
size_fits text = nat_le (length text) text_limit && (nat_le 1 (length (lines text)) && nat_le (length (lines text)) line_limit)

-- The tree that a policy text builds, or its first fault: the text's size, then line by line, and
-- last that one tree is left.
abbrev pub built : ℕ → List ℕ → Result Tree Fault
built size text = cond (size_fits text) (single tree_figure (length (lines text)) (grown tree_figure size 0 (lines text) [])) (Err (fault_at 0 (text_refusal Size)))

-- The text is the tree, written down: the tree is sound, and the text's lines are the tree's.
pub record Builds (size : ℕ) (text : List ℕ) (t : Tree) : Type 0 where
  pub formed : Formed size t
  pub short : length text ≤ text_limit
  pub few : length (lines text) ≤ line_limit
  pub written : lines text ≡ map shown (tree_lines t)
