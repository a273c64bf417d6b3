-- Lines that extend, judged.
use Rattle.std.proofs.Common.{◌≡◌, Some, None, Option, Result, refl, ap, ◌∙◌}
use Rattle.std.specs.Option.{option_map}
use Rattle.interfaces.specs.declared.fault.Refusal.{Refusal}
use Rattle.interfaces.specs.Checks.{meant}
use Rattle.interfaces.specs.Hashing.{digest_length}
use Rattle.policy.specs.Assertions.{Assertion}
use Rattle.policy.specs.Judging.{call_flaw}
use Rattle.policy.specs.Lines.{extend, line_flaw}
use Rattle.policy.specs.Reading.{refused_by, judged}

-- a line that extends is judged as its assertion is
pub extension : (o : Option Assertion) (r : Result Assertion Refusal) → r ≡ judged call_flaw o → meant extend r ≡ judged (line_flaw digest_length) (option_map extend o)
extension None r e = ap (meant extend) e
extension (Some a) r e = ap (meant extend) e ∙ by (call_flaw a)
  where
    by : (f : Option Refusal) → meant extend (refused_by f a) ≡ refused_by f (extend a)
    by None = refl
    by (Some d) = refl
