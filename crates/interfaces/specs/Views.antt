-- What the values of the interfaces' types mean.
use Rattle.std.specs.Prelude.{ℕ, List}
use Rattle.interfaces.specs.declared.byte_array.ByteArray.{ByteArray}
use Rattle.interfaces.specs.declared.digest.Digest.{Digest}
use Rattle.interfaces.specs.States.{pcr_length}

-- The bytes of a PCR's value, and of a digest.
abbrev pub pcr_bytes : ByteArray pcr_length → List ℕ
pcr_bytes p = p.bytes

abbrev pub digest_bytes : Digest → List ℕ
digest_bytes d = d.bytes
