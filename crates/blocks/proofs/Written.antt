-- Words written out as bytes.
use Rattle.std.proofs.Common.{◌≡◌, ℕ, ◌*◌, ◌<◌, List, [], ◌∷◌, length, sym, mul-zero, mul-suc, arith}
use Rattle.std.specs.List.{flat_map, AllByRecursion}
use Rattle.std.proofs.ByRecursion.{All-append}
use Rattle.std.proofs.lemmas.List.{length-append}

module _ (bytes_of : ℕ → List ℕ) where
  pub written-length : (k : ℕ) → ((x : ℕ) → length (bytes_of x) ≡ k) → (xs : List ℕ) → length (flat_map bytes_of xs) ≡ k * length xs
  written-length k long [] = sym (mul-zero k)
  written-length k long (x ∷ xs) =
      omega (arith, length-append (bytes_of x) (flat_map bytes_of xs), long x, written-length k long xs, mul-suc k (length xs))

  pub written-bytes : ((x : ℕ) → AllByRecursion (λ b. b < 256) (bytes_of x)) → (xs : List ℕ) → AllByRecursion (λ b. b < 256) (flat_map bytes_of xs)
  written-bytes small [] = tt
  written-bytes small (x ∷ xs) =
      All-append (λ b. b < 256) (bytes_of x) (flat_map bytes_of xs) (small x) (written-bytes small xs)
