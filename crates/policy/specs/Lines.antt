-- The lines of a policy text, and how each is written.
use Rattle.std.specs.Prelude.{◌≡◌, ℕ, ◌/◌, ◌%◌, ◌<◌, cond, ◌&&◌, List, [], ◌∷◌, ◌++◌, length, Some, None, codes, decimal, Option, nat_le}
use Rattle.std.specs.Option.{option_map}
use Rattle.interfaces.specs.declared.code.Code.TheVariants.{Size}
use Rattle.interfaces.specs.declared.fault.Refusal.{Refusal}
pub use Rattle.interfaces.specs.Checks.{Bytes}
use Rattle.interfaces.specs.Faults.{text_refusal, call_refusal}
use Rattle.text.specs.Cut.{tab}
use Rattle.text.specs.Pairs.{pairs}
use Rattle.policy.specs.Assertions.{Comparison, Assertion, pcr, nv, time, locality, command, presence, password}
use Rattle.policy.specs.Checks.{flaw}

-- A number of 2 bytes, and of 4, most significant byte first.
abbrev pub be2 : ℕ → List ℕ
be2 n = n / 256 % 256 ∷ n % 256 ∷ []

abbrev pub be4 : ℕ → List ℕ
be4 n = be2 (n / 65536) ++ be2 (n % 65536)

-- A line of a policy text: it begins a tree, joins the top trees into one, or extends the top tree.
pub data Line : Type 0 where
  start : Line
  any : ℕ → Line
  extend : Assertion → Line

-- A field, behind the tab that parts it from what stands before.
abbrev pub tabbed : List ℕ → List ℕ
tabbed field = tab ∷ field

abbrev pub shown_comparison : Comparison → List ℕ
shown_comparison c = tabbed (pairs c.operand) ++ tabbed (decimal c.offset) ++ tabbed (decimal c.operation)

-- How an assertion is written: its word, then its fields, byte strings as lower-case digit pairs,
-- offset and operation as decimals.
abbrev pub shown_assertion : Assertion → List ℕ
shown_assertion (pcr selection digest) = codes "pcr" ++ tabbed (pairs selection) ++ tabbed (pairs digest)
shown_assertion (nv name c) = codes "nv" ++ tabbed (pairs name) ++ shown_comparison c
shown_assertion (time c) = codes "time" ++ shown_comparison c
shown_assertion (locality set) = codes "locality" ++ tabbed (pairs (set ∷ []))
shown_assertion (command code) = codes "command" ++ tabbed (pairs (be4 code))
shown_assertion presence = codes "presence"
shown_assertion password = codes "password"

-- How a line is written, without its line feed.
abbrev pub shown : Line → List ℕ
shown start = codes "start"
shown (any n) = codes "any" ++ tabbed (decimal n)
shown (extend a) = shown_assertion a

-- The fields hold what they can hold at all: bytes, selections of 3 of them, sets of one, command
-- codes of 4, and decimals up to 65535.
abbrev pub HoldsComparison : Comparison → Type 0
HoldsComparison c = Bytes c.operand × (c.offset < 65536) × (c.operation < 65536)

abbrev pub HoldsAssertion : Assertion → Type 0
HoldsAssertion (pcr selection digest) = (length selection ≡ 3) × Bytes selection × Bytes digest
HoldsAssertion (nv name c) = Bytes name × HoldsComparison c
HoldsAssertion (time c) = HoldsComparison c
HoldsAssertion (locality set) = set < 256
HoldsAssertion (command code) = code < 4294967296
HoldsAssertion presence = Unit {0}
HoldsAssertion password = Unit {0}

abbrev pub Holds : Line → Type 0
Holds start = Unit {0}
Holds (any n) = n < 65536
Holds (extend a) = HoldsAssertion a

-- s is the line l as written: a policy text's line has the form of l.
pub record Is (s : List ℕ) (l : Line) : Type 0 where
  pub holds : Holds l
  pub written : shown l ≡ s

-- The fewest and the most trees that `any` joins.
abbrev pub fewest_trees : ℕ
fewest_trees = 2

abbrev pub most_trees : ℕ
most_trees = 8

-- The refusal of a line that has its form, by itself: of the number of trees that it joins, or of
-- its assertion's fields.
abbrev pub line_flaw : ℕ → Line → Option Refusal
line_flaw size start = None
line_flaw size (any n) = cond (nat_le fewest_trees n && nat_le n most_trees) None (Some (text_refusal Size))
line_flaw size (extend a) = option_map call_refusal (flaw size a)
