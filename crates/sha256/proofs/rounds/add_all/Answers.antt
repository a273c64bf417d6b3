use Rattle.std.proofs.Common.{◌≡◌, ℕ, ◌+◌, ◌%◌, ◌^◌, ◌<◌, get_or, rules}
use Rattle.std.proofs.lemmas.List.FromFn.{fill_by_all}
use Rattle.sha256.specs.Sha256.{sums}
use Rattle.sha256.proofs.rounds.add_all.Goals as goal

pub returns : goal.returns
unfolding sums
returns c =
    let sum : ℕ → ℕ = λ i. (get_or c.args.v i 0 + get_or c.args.h i 0) % 2 ^ 32 in
    let each : (i : ℕ) → i < 8 → get_or c.from_fn.result i 0 ≡ sum i =
    λ i h. let k = c.from_fn.ensures.items.at i 0 h in search rules in
    fill_by_all sum c.from_fn.result 8 0 c.from_fn.ensures.items.long each
