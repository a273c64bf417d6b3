-- What the code's stack means.
use Rattle.std.specs.Prelude.{◌≡◌, ℕ, ◌+◌, ◌<◌, List, map, length, sum_by, Ok, Err, Result}
use Rattle.arrays.specs.Items.{items}
use Rattle.interfaces.specs.declared.fault.Refusal.{Refusal}
use Rattle.interfaces.specs.Hashing.{Hashing}
use Rattle.interfaces.specs.Views.{digest_bytes}
use Rattle.policy.specs.Lines.{Line, start, any, extend}
use Rattle.tree.specs.declared.stack.Stack.{Stack}
use Rattle.tree.specs.Stacks.{stacked, allowed, digest_figure}
use Rattle.tree.specs.Texts.{line_limit}
use Rattle.tree.specs.Trees.{Tree, branches, tree_digest}

-- The digests on the stack, lowest first.
abbrev pub stack_of : Stack → List (List ℕ)
stack_of s = map digest_bytes (items s.digests)

-- There is room for one tree more, and its branch can be counted.
pub record HasRoom (s : Stack) : Type 0 where
  pub trees : length (items s.digests) < line_limit
  pub branches : s.branches < line_limit

-- How many branches a line begins.
abbrev pub starts : Line → ℕ
starts start = 1
starts (any n) = 0
starts (extend a) = 0

-- What a line did to the stack `before`, where its digests should have become `told` and so many
-- branches begun, or the line been refused.
abbrev pub Grew : Result (List (List ℕ)) Refusal → ℕ → Stack → Result (Unit {0}) Refusal → Stack → Type 0
Grew (Ok told) begun before r after = (r ≡ Ok tt) × (stack_of after ≡ told) × (after.branches ≡ before.branches + begun)
Grew (Err e) begun before r after = (r ≡ Err e) × (after ≡ before)

-- What putting a line on the stack did.
abbrev pub Put : Hashing → Line → Stack → Result (Unit {0}) Refusal → Stack → Type 0
Put h l before r after = Grew (allowed (stacked (digest_figure h) l (stack_of before))) (starts l) before r after

-- The same of a text's line, as it was read.
abbrev pub Took : Hashing → Result Line Refusal → Stack → Result (Unit {0}) Refusal → Stack → Type 0
Took h (Ok l) before r after = Put h l before r after
Took h (Err e) before r after = (r ≡ Err e) × (after ≡ before)

-- How many branches the trees of a stack have.
abbrev pub all_branches : List Tree → ℕ
all_branches ts = sum_by (λ t. length (branches t)) ts

-- What a stack shows: its digests, and the number of branches.
abbrev pub shows : Stack → List (List ℕ) × ℕ
shows s = (stack_of s, s.branches)

-- What a stack of these trees shows.
abbrev pub shows_of : Hashing → List Tree → List (List ℕ) × ℕ
shows_of h ts = (map (tree_digest h) ts, all_branches ts)
