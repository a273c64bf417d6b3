-- A digest has 32 bytes.
use Rattle.std.specs.Prelude.{◌≡◌, ℕ, ◌*◌, ◌/◌, ◌<◌, List, length, take, refl}
use Rattle.std.proofs.Common.{ap, ◌∙◌, arith}
use Rattle.std.specs.List.{AllByRecursion}
use Rattle.std.proofs.lemmas.List.{length-take-le}
use Rattle.blocks.specs.Blocks.{absorb}
use Rattle.blocks.proofs.Absorbed.{absorb-keeps}
use Rattle.blocks.proofs.Written.{written-length, written-bytes}
use Rattle.sha3.specs.Keccak.{keccak_f}
use Rattle.sha3.specs.Sha3.{lane_bytes, taken, pad, S0, sha3_256}

long : (s block : List ℕ) → length (taken s block) ≡ 25
unfolding keccak_f taken
long s block = refl

pub sized : (m : List ℕ) → length (sha3_256 m) ≡ 32
unfolding lane_bytes sha3_256 S0
sized m =
    let n = length (pad m) / 136 in
    let s = absorb taken 136 n (pad m) S0 in
    let all = absorb-keeps taken 136 (λ s. length s ≡ 25) long n (pad m) S0 refl in
    written-length lane_bytes 8 (λ x. refl) (take 4 s) ∙ ap (λ k. 8 * k) (length-take-le 4 s (omega arith))

small : (x : ℕ) → AllByRecursion (λ b. b < 256) (lane_bytes x)
unfolding lane_bytes
small x = (
  omega arith,
  (omega arith, (omega arith, (omega arith, (omega arith, (omega arith, (omega arith, (omega arith, tt))))))),
)

pub bytes : (m : List ℕ) → AllByRecursion (λ b. b < 256) (sha3_256 m)
unfolding sha3_256
bytes m = written-bytes lane_bytes small (take 4 (absorb taken 136 (length (pad m) / 136) (pad m) S0))
