use Rattle.std.proofs.Common.{◌≡◌, ℕ, ◌*◌, [], ◌∷◌, ◌++◌, take, replicate, arith, rules}
use Rattle.std.proofs.lemmas.List.{append_assoc, take-replicate}
use Rattle.std.proofs.lemmas.Grind.{common_steps}
use Rattle.arrays.specs.Items.{items}
use Rattle.sha256.specs.Sha256.{zeros_after, padding, long_bytes}
use Rattle.sha256.proofs.message.pad.Goals as goal

pub unwrap-requires-3 : goal.unwrap-requires-3
unfolding zeros_after
unwrap-requires-3 c = grind (arith, common_steps)

pub returns : goal.returns
unfolding zeros_after padding long_bytes
returns c =
    let rest = items c.args.rest.now in
    let zeros = c.zeros_after.result in
    let e1 : items c.push.new.self ≡ rest ++ (0x80 ∷ []) = search rules in
    let e2 : items c.extend.new.self ≡ items c.push.new.self ++ take zeros (replicate 64 0) = search rules in
    let e3 : items c.extend-2.new.self ≡ items c.extend.new.self ++ c.to_be_bytes.result = search rules in
    let short = take-replicate {X = ℕ} zeros 64 0 (omega arith) in
    let regroup : ((rest ++ (0x80 ∷ [])) ++ replicate zeros 0) ++ long_bytes (8 * c.args.n) ≡ rest ++ ((0x80 ∷ []) ++ (replicate zeros 0 ++ long_bytes (8 * c.args.n))) =
    simp append_assoc in
    cc
