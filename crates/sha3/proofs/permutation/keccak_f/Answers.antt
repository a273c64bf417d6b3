use Rattle.std.proofs.Common.{◌≡◌, ℕ, ◌+◌, ◌<◌, List, length, get_or, take, fold, ap, ◌∙◌, arith}
use Rattle.std.proofs.lemmas.List.{take_all}
use Rattle.std.proofs.lemmas.List.Sums.{fold_more}
use Rattle.sha3.specs.Keccak.{Rnd, constants, keccak_f}
use Rattle.sha3.proofs.permutation.keccak_f.Goals as goal

one_more : (step : List ℕ → ℕ → List ℕ) (ks a s next : List ℕ) (i : ℕ) → i < length ks → s ≡ fold step a (take i ks) → next ≡ step s (get_or ks i 0) → next ≡ fold step a (take (i + 1) ks)
one_more step ks a s next i h es en = cc (fold_more step a ks i 0 h)

pub loop-constant-preserved : goal.loop-constant-preserved
loop-constant-preserved c =
    one_more Rnd (constants 24 0) c.args.start c.loop-constant.s c.round-next.result c.loop-constant.constant-index
    (omega arith) c.loop-constant.invariant c.round-next.ensures

pub returns : goal.returns
unfolding keccak_f
returns c =
    c.loop-constant.invariant ∙ ap (fold Rnd c.args.start) (take_all c.loop-constant.constant-index (constants 24 0) (omega arith))
