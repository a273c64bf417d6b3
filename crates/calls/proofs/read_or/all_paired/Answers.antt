use Rattle.std.proofs.Common.{is_some, ap, rules, ◌∙◌}
use borrow.Author.Tests.{tests}
use Rattle.std.proofs.lemmas.Iterator.Consumers.{YieldsList-from_first}
use Rattle.std.proofs.lemmas.Iterator.Search.{all_from_yields_List}
use Rattle.std.specs.Option.{option_map}
use Rattle.text.specs.declared.cut.Fields.{Fields}
use Rattle.text.specs.Cut.{further}
use Rattle.text.specs.Pairs.{unpaired}
use Rattle.calls.proofs.Fields.{all_some}
use Rattle.calls.proofs.read_or.all_paired.Goals as goal

pub returns : goal.returns
returns c =
    let fs = further (option_map (λ x. x.now) c.args.rest) in
    let chain = YieldsList-from_first (λ x. x.now) (λ (s : Fields). further (option_map (λ x. x.now) s.rest)) {s = c.new.result} fs (ap further c.new.ensures) in
    all_from_yields_List (λ f. is_some (unpaired f)) c.all.new.self _ _ c.all.ensures.ran chain (λ x b q k. search (rules, tests)) ∙ all_some fs
