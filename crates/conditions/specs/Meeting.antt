-- What an assertion asks of a reader state: the checks that a policy session makes against the state
-- at the call, in their order.
use Rattle.std.specs.Prelude.{ℕ, ◌+◌, List, length, take, drop, Some, None, Option, nat_le}
use Rattle.std.specs.Option.{option_map}
use Rattle.std.specs.Str.{bytes_eq}
use Rattle.interfaces.specs.declared.code.Code.{Code}
use Rattle.interfaces.specs.declared.code.Code.TheVariants.{Value, Handle, Range, Policy, NvRange}
use Rattle.interfaces.specs.declared.fault.Refusal.{Refusal}
use Rattle.interfaces.specs.Checks.{first, unless}
use Rattle.interfaces.specs.Faults.{call_refusal, state_refusal}
use Rattle.interfaces.specs.Hashing.{Hashing}
use Rattle.interfaces.specs.States.{Snapshot}
use Rattle.policy.specs.Assertions.{Comparison, Assertion, pcr, nv, time, locality, command, presence, password}
use Rattle.conditions.specs.Comparing.{compares}
use Rattle.conditions.specs.Picking.{picked}

-- The comparison of the part of a value that begins at the offset and is as long as the operand:
-- refused with `past` where the part runs past the value's end, with 126 where it does not compare.
abbrev pub comparison_unmet : Code → List ℕ → Comparison → Option Code
comparison_unmet past value c =
    first (unless (nat_le (c.offset + length c.operand) (length value)) past)
    (unless (compares c.operation (take (length c.operand) (drop c.offset value)) c.operand) Policy)

-- The hash of the picked PCRs is the digest.
abbrev pub pcrs_unmet : Hashing → Snapshot → List ℕ → List ℕ → Option Code
pcrs_unmet h s selection digest = unless (bytes_eq (h.digest (picked selection s.pcrs)) digest) Value

-- The value stored under the Name compares; the state refuses a Name that it does not hold.
abbrev pub stored_unmet : Option (List ℕ) → Comparison → Option Refusal
stored_unmet None c = Some (state_refusal Handle)
stored_unmet (Some value) c = option_map call_refusal (comparison_unmet NvRange value c)

-- The first refusal, if any, of what an assertion asks of the state. What a session only records
-- (locality, command, presence, password) asks nothing yet.
abbrev pub unmet : Hashing → Snapshot → Assertion → Option Refusal
unmet h s (pcr selection digest) = option_map call_refusal (pcrs_unmet h s selection digest)
unmet h s (nv name c) = stored_unmet (s.stored name) c
unmet h s (time c) = option_map call_refusal (comparison_unmet Range s.time c)
unmet h s (locality set) = None
unmet h s (command code) = None
unmet h s presence = None
unmet h s password = None
