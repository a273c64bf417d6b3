use Rattle.std.proofs.Common.{◌≡◌, position, refl, ◌∙◌, rules, tests, arith}
use Rattle.std.specs.List.{range_with_len}
use Rattle.std.specs.Str.{bytes_eq}
use Rattle.std.proofs.lemmas.Iterator.{YieldsList-from_range}
use Rattle.std.proofs.lemmas.Iterator.Search.{position_from_yields_List}
use Rattle.tables.proofs.Places.{place_is}
use Rattle.block.specs.Layout.{entry_in, name_in, number_in}
use Rattle.block.specs.Views.{block_bytes}
use Rattle.block.proofs.block.Block.place.Goals as goal

pub returns : goal.returns
returns c =
    let bs = block_bytes c.args.self.now in
    let name = c.args.name.now in
    let used = range_with_len 0 (number_in bs) in
    let found : c.position.result ≡ position (λ i. bytes_eq (name_in bs i) name) used = position_from_yields_List (λ i. bytes_eq (name_in bs i) name) _ _ c.position.result c.position.ensures.ran (YieldsList-from_range 0 c.number.result (number_in bs) refl (omega (arith, c.number.ensures))) (λ x b q k. search (rules, tests)) in
    found ∙ place_is (entry_in bs) bytes_eq used name
