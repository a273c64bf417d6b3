-- SHA3-256 (FIPS 202, sections 4, 5.1 and 6.1, and B.2) of a message of whole bytes.
use Rattle.std.specs.Prelude.{ℕ, zero, suc, ◌+◌, ◌-◌, ◌*◌, ◌/◌, ◌%◌, cond, List, [], ◌∷◌, ◌++◌, length, take, drop, replicate, ◌==◌, bit_or, bit_xor, slice_index, slice_set}
use Rattle.std.specs.List.{flat_map}
use Rattle.blocks.specs.Blocks.{absorb}
use Rattle.interfaces.specs.Hashing.{Hashing}
use Rattle.sha3.specs.Keccak.{keccak_f}

-- A lane as its eight bytes, the lowest first.
unfoldable pub lane_bytes : ℕ → List ℕ
lane_bytes x =
    (x % 256) ∷ (x / 256 % 256) ∷ (x / 65536 % 256) ∷ (x / 16777216 % 256) ∷
    (x / 4294967296 % 256) ∷ (x / 1099511627776 % 256) ∷ (x / 281474976710656 % 256) ∷ (x / 72057594037927936 % 256) ∷ []

-- The lane that the first eight bytes are, the lowest first.
unfoldable pub first_lane : List ℕ → ℕ
first_lane m =
    slice_index m 0 + slice_index m 1 * 256 + slice_index m 2 * 65536 + slice_index m 3 * 16777216 +
    slice_index m 4 * 4294967296 + slice_index m 5 * 1099511627776 + slice_index m 6 * 281474976710656 + slice_index m 7 * 72057594037927936

-- The padding of a message of n bytes up to whole blocks of 136: the suffix 01 of SHA-3, and
-- pad10*1, which is a bit 1, zeros and a bit 1. The bits of a byte count from its lowest.
unfoldable pub padding : ℕ → List ℕ
padding n =
    cond (n % 136 == 135) (0x86 ∷ []) ((0x06 ∷ []) ++ (replicate (134 - n % 136) 0 ++ (0x80 ∷ [])))

-- A block with its last bit turned to 1, which ends the padding.
abbrev pub ended : List ℕ → List ℕ
ended block = slice_set block 135 (bit_or (slice_index block 135) 0x80)

-- The padded message.
unfoldable pub pad : List ℕ → List ℕ
pad m = m ++ padding (length m)

-- The state s with the first n lanes of a block added to its own.
unfoldable pub added : ℕ → List ℕ → List ℕ → List ℕ
added zero s block = s
added (suc n) s block =
    slice_set (added n s block) n (bit_xor (slice_index (added n s block) n) (first_lane (drop (8 * n) block)))

-- The state s after one more block: the 17 lanes of the block are added, and the state is permuted.
unfoldable pub taken : List ℕ → List ℕ → List ℕ
taken s block = keccak_f (added 17 s block)

-- The state before the first block.
unfoldable pub S0 : List ℕ
S0 = replicate 25 0

-- The digest: the first 32 bytes of the state after all blocks of the padded message. A block has
-- 136 bytes, the rate.
unfoldable pub sha3_256 : List ℕ → List ℕ
sha3_256 m = flat_map lane_bytes (take 4 (absorb taken 136 (length (pad m) / 136) (pad m) S0))

-- SHA3-256 as a hash, with its identifier in TPM 2.0.
abbrev pub sha3_256_hashing : Hashing
sha3_256_hashing = record { digest = sha3_256; size = 32; identifier = 0x0027 }
