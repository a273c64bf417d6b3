use Rattle.std.proofs.Common.{nat_eq, ap, ◌∙◌, arith}
use Rattle.chest.proofs.Differing.{same_bytes}
use Rattle.chest.proofs.same.same_bytes.Goals as goal

pub returns-then-a-b : goal.returns-then-a-b
returns-then-a-b c = ap (λ d. nat_eq d 0) c.differing_bits.ensures ∙ same_bytes c.args.a.now c.args.b.now (omega arith)
