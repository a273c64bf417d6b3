-- The length of the padded message.
use Rattle.std.proofs.Common.{◌≡◌, ℕ, ◌+◌, ◌*◌, ◌/◌, ◌%◌, List, ◌++◌, length, replicate, ◌∙◌, arith}
use Rattle.std.proofs.lemmas.List.{length-append, length-replicate}
use Rattle.sha256.specs.Sha256.{zeros_after, long_bytes, padding, pad}

length-padding : (n : ℕ) → length (padding n) ≡ 9 + zeros_after n
unfolding padding long_bytes
length-padding n =
    let zeros : length (replicate (zeros_after n) 0 ++ long_bytes (8 * n)) ≡ zeros_after n + 8 =
    length-append (replicate (zeros_after n) 0) (long_bytes (8 * n)) ∙ rw (length-replicate {A = ℕ} (zeros_after n) 0) in
    omega (arith, zeros)

length-pad : (m : List ℕ) → length (pad m) ≡ length m + (9 + zeros_after (length m))
unfolding pad
length-pad m = length-append m (padding (length m)) ∙ rw (length-padding (length m))

-- The blocks of the padded message are those of the message, and those of its rest with the padding.
pub blocks_pad : (m rest : List ℕ) → length rest ≡ length m % 64 → length (pad m) / 64 ≡ length m / 64 + length (rest ++ padding (length m)) / 64
unfolding zeros_after
blocks_pad m rest e = omega (arith, length-pad m, length-append rest (padding (length m)), length-padding (length m))
