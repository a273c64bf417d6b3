use Rattle.std.proofs.Common.{ℕ, ◌==◌, ◌∙◌, rules, tests}
use lib.Bits.{bit_and}
use Rattle.std.proofs.lemmas.Iterator.{YieldsList-from_slice, YieldsList-from_zip}
use Rattle.std.proofs.lemmas.Iterator.Search.{all_from_yields_List}
use Rattle.conditions.proofs.Bits.{all_clear}
use Rattle.conditions.proofs.compare.has_bits_clear.Goals as goal

pub returns : goal.returns
returns c =
    let a = c.args.a.now in
    let b = c.args.b.now in
    all_from_yields_List (λ (p : ℕ × ℕ). bit_and p.0 p.1 == 0) c.all.new.self tt _ c.all.ensures.ran (YieldsList-from_zip (YieldsList-from_slice a cc) (YieldsList-from_slice b cc)) (λ x b q k. search (rules, tests)) ∙ all_clear a b
