-- Worked cases, of the same definitions.
use Rattle.std.specs.Prelude.{◌≡◌, Some}
use Rattle.interfaces.specs.declared.code.Code.TheVariants.{Range}
use Rattle.policy.specs.Assertions.{locality}
use Rattle.session.specs.Steps.{Progress, assertion_record_flaw, common_set}

-- The sets 03 and then 06 record 02; where 01 is recorded, 02 gives 08d.
abbrev pub WorkedSets : Type 0
WorkedSets = (common_set (Some 0x03) 0x06 ≡ 0x02) × ((p : Progress) → p.localities ≡ Some 0x01 → assertion_record_flaw p (locality 0x02) ≡ Some Range)
