-- Policy calls: an assertion, or an `or` that allows each of several digests; and how each is written
-- as a line of a run.
use Rattle.std.specs.Prelude.{◌≡◌, ℕ, Bool, ◌&&◌, List, ◌++◌, length, codes, Option, Result, ◌==◌, nat_le}
use Rattle.std.specs.List.{flat_map, list_all, AllByRecursion}
use Rattle.interfaces.specs.declared.code.Code.{Code}
use Rattle.interfaces.specs.declared.code.Code.TheVariants.{Size}
use Rattle.interfaces.specs.Checks.{Bytes, refused_with, unless}
use Rattle.interfaces.specs.Hashing.{digest_length}
use Rattle.text.specs.Pairs.{pairs}
use Rattle.policy.specs.Assertions.{Assertion}
use Rattle.policy.specs.Checks.{flaw}
use Rattle.policy.specs.Lines.{HoldsAssertion, shown_assertion, tabbed}
use Rattle.calls.specs.Limits.{fewest_digests, most_digests}

pub data Call : Type 0 where
  assert : Assertion → Call
  or : List (List ℕ) → Call

-- Every digest has `size` bytes.
abbrev pub all_sized : ℕ → List (List ℕ) → Bool
all_sized size ds = list_all (λ d. length d == size) ds

-- The first refusal of a call's fields, where digests have `size` bytes.
abbrev pub call_flaw : ℕ → Call → Option Code
call_flaw size (assert a) = flaw size a
call_flaw size (or ds) = unless ((nat_le fewest_digests (length ds) && nat_le (length ds) most_digests) && all_sized size ds) Size

-- A call, unless its fields are refused.
abbrev pub judged_call : Call → Result Call Code
judged_call c = refused_with (call_flaw digest_length c) c

-- How a call is written, without its line feed: `or` has a field for each digest.
abbrev pub shown_call : Call → List ℕ
shown_call (assert a) = shown_assertion a
shown_call (or ds) = codes "or" ++ flat_map (λ d. tabbed (pairs d)) ds

-- The fields hold what they can hold at all.
abbrev pub HoldsCall : Call → Type 0
HoldsCall (assert a) = HoldsAssertion a
HoldsCall (or ds) = AllByRecursion Bytes ds

-- s is the call c as written.
pub record IsCall (s : List ℕ) (c : Call) : Type 0 where
  pub holds : HoldsCall c
  pub written : shown_call c ≡ s
