-- What a comparison's fields stand for, once they have their form.
use Rattle.std.specs.Prelude.{◌≡◌, ℕ, List, [], length, Some}
use Rattle.std.specs.Option.{unwrap_or}
use Rattle.text.specs.Pairs.{unpaired}
use Rattle.policy.specs.declared.compare.ComparisonFields.{ComparisonFields}
use Rattle.policy.specs.Assertions.{Comparison}

-- The field is digit pairs that stand for n bytes.
abbrev pub Stands : List ℕ → ℕ → Type 0
Stands field n = (bs : List ℕ) × (unpaired field ≡ Some bs) × (length bs ≡ n)

abbrev pub fields_of : ComparisonFields → Comparison
fields_of f = record { operand = unwrap_or (unpaired f.operand.now) []; offset = f.offset; operation = f.operation }

-- The operand's field is digit pairs, of as many bytes as noted.
abbrev pub Counted : ComparisonFields → Type 0
Counted f = Stands f.operand.now f.len
