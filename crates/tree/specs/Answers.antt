-- What digesting a policy text answers and writes.
use Rattle.std.specs.Prelude.{◌≡◌, ℕ, cond, List, length, replicate, Ok, Err, Result, ◌==◌}
use Rattle.interfaces.specs.declared.code.Code.TheVariants.{Size}
use Rattle.interfaces.specs.declared.digest.Digest.{Digest}
use Rattle.interfaces.specs.declared.fault.Fault.{Fault}
use Rattle.interfaces.specs.Faults.{call_refusal, fault_at}
use Rattle.interfaces.specs.Hashing.{Hashing, digest_length}
use Rattle.text.specs.Cut.{lines}
use Rattle.tree.specs.declared.summary.Summary.{Summary}
use Rattle.tree.specs.Texts.{built, Builds}
use Rattle.tree.specs.Trees.{Tree, branches, tree_digest}

-- A tree's figures, beside the number of its text's lines.
abbrev pub summary : List ℕ → Tree → Summary
summary text t = record { lines = length (lines text); branches = length (branches t) }

-- The digest and the figures of the tree that a text builds, as the code holds them.
abbrev pub figures : Digest × Summary → List ℕ × Summary
figures p = (p.0.bytes, p.1)

abbrev pub figures_of : Hashing → List ℕ → Result Tree Fault → Result (List ℕ × Summary) Fault
figures_of h text (Ok t) = Ok (tree_digest h t, summary text t)
figures_of h text (Err e) = Err e

-- The tree of a text whose digest goes into a buffer of `room` bytes: the buffer is judged first.
abbrev pub digested : List ℕ → ℕ → Result Tree Fault
digested text room = cond (room == digest_length) (built digest_length text) (Err (fault_at 0 (call_refusal Size)))

abbrev pub answer_of : List ℕ → Result Tree Fault → Result Summary Fault
answer_of text (Ok t) = Ok (summary text t)
answer_of text (Err e) = Err e

-- The buffer afterwards: the tree's digest, or zeros after a fault.
abbrev pub written_of : Hashing → ℕ → Result Tree Fault → List ℕ
written_of h room (Ok t) = tree_digest h t
written_of h room (Err e) = replicate room 0

-- What an answer means: the figures and the digest of the one sound tree that the text writes
-- down; a refusal, if the buffer has a digest's length, that it writes down none.
abbrev pub Means : Hashing → List ℕ → ℕ → Result Summary Fault → List ℕ → Type 0
Means h text room (Ok s) out = (t : Tree) × Builds digest_length text t × (s ≡ summary text t) × (out ≡ tree_digest h t)
Means h text room (Err e) out = room ≡ digest_length → (t : Tree) → Builds digest_length text t → ⊥
