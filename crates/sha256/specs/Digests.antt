-- A digest has 32 bytes.
use Rattle.std.specs.Prelude.{◌≡◌, ℕ, ◌*◌, ◌/◌, ◌<◌, List, length, refl}
use Rattle.std.proofs.Common.{ap, ◌∙◌, arith}
use Rattle.std.specs.List.{AllByRecursion}
use Rattle.blocks.specs.Blocks.{absorb}
use Rattle.blocks.proofs.Absorbed.{absorb-keeps}
use Rattle.blocks.proofs.Written.{written-length, written-bytes}
use Rattle.sha256.specs.Constants.{H0}
use Rattle.sha256.specs.Sha256.{word_bytes, sums, compress, pad, sha256}

pub sized : (m : List ℕ) → length (sha256 m) ≡ 32
unfolding word_bytes sums compress sha256 H0
sized m =
    let n = length (pad m) / 64 in
    written-length word_bytes 4 (λ x. refl) (absorb compress 64 n (pad m) H0)
    ∙ ap (λ k. 4 * k) (absorb-keeps compress 64 (λ h. length h ≡ 8) (λ h block. refl) n (pad m) H0 refl)

small : (x : ℕ) → AllByRecursion (λ b. b < 256) (word_bytes x)
unfolding word_bytes
small x = (omega arith, (omega arith, (omega arith, (omega arith, tt))))

pub bytes : (m : List ℕ) → AllByRecursion (λ b. b < 256) (sha256 m)
unfolding sha256
bytes m = written-bytes word_bytes small (absorb compress 64 (length (pad m) / 64) (pad m) H0)
