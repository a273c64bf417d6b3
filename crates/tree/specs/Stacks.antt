-- How the lines of a policy text build a stack, line by line: a definition that computes. It is
-- said for any values that trees may have, their digests among them.
use Rattle.std.specs.Prelude.{ℕ, suc, ◌-◌, cond, List, [], ◌∷◌, ◌++◌, length, take, drop, Some, None, Ok, Err, Option, Result, ◌==◌, nat_le, slice_index_or}
use Rattle.interfaces.specs.declared.fault.Refusal.{Refusal}
use Rattle.interfaces.specs.declared.fault.Fault.{Fault}
use Rattle.interfaces.specs.Faults.{form_refusal, fault_at}
use Rattle.interfaces.specs.Hashing.{Hashing, zeros}
use Rattle.policy.specs.Assertions.{Assertion}
use Rattle.policy.specs.Lines.{Line, start, any, extend}
use Rattle.policy.specs.Reading.{read_line}
use Rattle.policy.specs.Strings.{extended, joined_digest}
use Rattle.tree.specs.Trees.{Tree, Forest, leaf, step, choice, nil, cons}

-- Values of trees: of the tree that asks nothing, of a tree after one assertion more, and of a
-- choice among trees, lowest first.
pub record Figure (A : Type 0) : Type 0 where
  pub begin : A
  pub more : A → Assertion → A
  pub join : List A → A

-- The stack, lowest tree first, after one line; none where it has too few trees.
abbrev pub stacked : {A : Type 0} → Figure A → Line → List A → Option (List A)
stacked F start s = Some (s ++ F.begin ∷ [])
stacked F (extend a) s = cond (nat_le 1 (length s)) (Some (take (length s - 1) s ++ F.more (slice_index_or s (length s - 1) F.begin) a ∷ [])) None
stacked F (any n) s = cond (nat_le n (length s)) (Some (take (length s - n) s ++ F.join (drop (length s - n) s) ∷ [])) None

-- A line that was read, on the stack.
abbrev pub allowed : {A : Type 0} → Option A → Result A Refusal
allowed None = Err form_refusal
allowed (Some x) = Ok x

abbrev pub on_stack : {A : Type 0} → Figure A → Result Line Refusal → List A → Result (List A) Refusal
on_stack F (Ok l) s = allowed (stacked F l s)
on_stack F (Err e) s = Err e

-- A text's line on the stack: read and judged, and then stacked.
abbrev pub line_step : {A : Type 0} → Figure A → ℕ → List ℕ → List A → Result (List A) Refusal
line_step F size line s = on_stack F (read_line size line) s

-- What follows line n, if that was not refused.
abbrev pub followed : {A B : Type 0} → ℕ → Result A Refusal → (A → Result B Fault) → Result B Fault
followed n (Err e) next = Err (fault_at n e)
followed n (Ok x) next = next x

-- All lines in turn, behind n lines: the stack after them, or the fault of the first line refused.
abbrev pub grown : {A : Type 0} → Figure A → ℕ → ℕ → List (List ℕ) → List A → Result (List A) Fault
grown F size n [] s = Ok s
grown F size n (l ∷ ls) s = followed (suc n) (line_step F size l s) (λ s'. grown F size (suc n) ls s')

-- The one value left after n lines; any other number of them is a fault of the last line.
abbrev pub single : {A : Type 0} → Figure A → ℕ → Result (List A) Fault → Result A Fault
single F n (Err e) = Err e
single F n (Ok s) = cond (length s == 1) (Ok (slice_index_or s 0 F.begin)) (Err (fault_at n form_refusal))

-- The figure that is the tree itself.
abbrev pub forest : List Tree → Forest
forest [] = nil
forest (t ∷ ts) = cons t (forest ts)

abbrev pub tree_figure : Figure Tree
tree_figure = record { begin = leaf; more = step; join = λ ts. choice (forest ts) }

-- The figure that is the tree's digest.
abbrev pub digest_figure : Hashing → Figure (List ℕ)
digest_figure h = record { begin = zeros h; more = extended h; join = joined_digest h }
