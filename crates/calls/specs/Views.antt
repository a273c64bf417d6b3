-- What the code's calls mean.
use Rattle.std.specs.Prelude.{ℕ, List, map}
use Rattle.arrays.specs.Items.{items}
use Rattle.policy.specs.Views.{assertion_of, digest_bytes}
use Rattle.calls.specs.declared.digests.Digests.{Digests}
use Rattle.calls.specs.declared.call.Call as code
use Rattle.calls.specs.declared.call.Call.TheVariants.{Assert, Or}
use Rattle.calls.specs.Calls.{Call, assert, or}

abbrev pub digests_of : Digests → List (List ℕ)
digests_of d = map digest_bytes (items d.digests)

abbrev pub call_of : code.Call → Call
call_of (Assert a) = assert (assertion_of a)
call_of (Or d) = or (digests_of d)
