-- SHA-256 (FIPS 180-4, sections 5.1.1, 5.2.1 and 6.2) of a message of whole bytes.
use Rattle.std.specs.Prelude.{ℕ, zero, suc, ◌+◌, ◌-◌, ◌*◌, ◌/◌, ◌%◌, ◌^◌, List, [], ◌∷◌, ◌++◌, length, drop, replicate, slice_index}
use Rattle.std.specs.List.{flat_map}
use Rattle.blocks.specs.Blocks.{absorb}
use Rattle.interfaces.specs.Hashing.{Hashing}
use Rattle.sha256.specs.Functions.{Ch, Maj, Σ0, Σ1, σ0, σ1}
use Rattle.sha256.specs.Constants.{K, H0}

-- A word as its four bytes, the highest first.
unfoldable pub word_bytes : ℕ → List ℕ
word_bytes x = (x / 16777216 % 256) ∷ (x / 65536 % 256) ∷ (x / 256 % 256) ∷ (x % 256) ∷ []

-- A number as eight bytes, the highest first.
unfoldable pub long_bytes : ℕ → List ℕ
long_bytes x =
    (x / 72057594037927936 % 256) ∷ (x / 281474976710656 % 256) ∷ (x / 1099511627776 % 256) ∷ (x / 4294967296 % 256) ∷
    (x / 16777216 % 256) ∷ (x / 65536 % 256) ∷ (x / 256 % 256) ∷ (x % 256) ∷ []

-- How many zero bytes the padding of n bytes has: the fewest that make n, the byte of the bit 1, the
-- zeros and the 8 bytes of the length whole blocks. In bits, l + 1 + k is 448 modulo 512.
unfoldable pub zeros_after : ℕ → ℕ
zeros_after n = (119 - n % 64) % 64

-- The padding of a message of n bytes: the bit 1, zeros, and the length in bits.
unfoldable pub padding : ℕ → List ℕ
padding n = (0x80 ∷ []) ++ (replicate (zeros_after n) 0 ++ long_bytes (8 * n))

-- The padded message.
unfoldable pub pad : List ℕ → List ℕ
pad m = m ++ padding (length m)

-- The word that the first four bytes are, the highest first.
unfoldable pub first_word : List ℕ → ℕ
first_word m = slice_index m 0 * 16777216 + slice_index m 1 * 65536 + slice_index m 2 * 256 + slice_index m 3

-- The first n words.
unfoldable pub words : ℕ → List ℕ → List ℕ
words zero m = []
words (suc n) m = first_word m ∷ words n (drop 4 m)

-- The word W t of the message schedule, from those before it:
-- σ1 (W (t - 2)) + W (t - 7) + σ0 (W (t - 15)) + W (t - 16).
unfoldable pub schedule_word : List ℕ → ℕ → ℕ
schedule_word w t = (σ1 (slice_index w (t - 2)) + slice_index w (t - 7) + σ0 (slice_index w (t - 15)) + slice_index w (t - 16)) % 2 ^ 32

-- A schedule with n more words.
unfoldable pub extended : ℕ → List ℕ → List ℕ
extended zero w = w
extended (suc n) w = extended n (w ++ (schedule_word w (length w) ∷ []))

-- The 64 words W of the message schedule of a block: the 16 of the block, and 48 more.
unfoldable pub schedule : List ℕ → List ℕ
schedule block = extended 48 (words 16 block)

-- The first temporary word of a round on the working variables v, which are a to h in their order,
-- with the round's constant k and its word w: h + Σ1 e + Ch e f g + k + w.
unfoldable pub T1 : List ℕ → ℕ → ℕ → ℕ
T1 v k w = (slice_index v 7 + Σ1 (slice_index v 4) + Ch (slice_index v 4) (slice_index v 5) (slice_index v 6) + k + w) % 2 ^ 32

-- The second: Σ0 a + Maj a b c.
unfoldable pub T2 : List ℕ → ℕ
T2 v = (Σ0 (slice_index v 0) + Maj (slice_index v 0) (slice_index v 1) (slice_index v 2)) % 2 ^ 32

-- The working variables after the round: a is T1 + T2, e is d + T1, and each other moves on by one.
unfoldable pub round : List ℕ → ℕ → ℕ → List ℕ
round v k w =
    ((T1 v k w + T2 v) % 2 ^ 32) ∷ slice_index v 0 ∷ slice_index v 1 ∷ slice_index v 2 ∷
    ((slice_index v 3 + T1 v k w) % 2 ^ 32) ∷ slice_index v 4 ∷ slice_index v 5 ∷ slice_index v 6 ∷ []

-- The working variables after a round for each constant and word.
unfoldable pub rounds : List ℕ → List ℕ → List ℕ → List ℕ
rounds [] ws v = v
rounds (k ∷ ks) [] v = v
rounds (k ∷ ks) (w ∷ ws) v = rounds ks ws (round v k w)

-- Two lists of eight words, added word by word.
unfoldable pub sums : List ℕ → List ℕ → List ℕ
sums v h =
    ((slice_index v 0 + slice_index h 0) % 2 ^ 32) ∷ ((slice_index v 1 + slice_index h 1) % 2 ^ 32) ∷
    ((slice_index v 2 + slice_index h 2) % 2 ^ 32) ∷ ((slice_index v 3 + slice_index h 3) % 2 ^ 32) ∷
    ((slice_index v 4 + slice_index h 4) % 2 ^ 32) ∷ ((slice_index v 5 + slice_index h 5) % 2 ^ 32) ∷
    ((slice_index v 6 + slice_index h 6) % 2 ^ 32) ∷ ((slice_index v 7 + slice_index h 7) % 2 ^ 32) ∷ []

-- The hash value h after one more block: the working variables start as h, and are added to it.
unfoldable pub compress : List ℕ → List ℕ → List ℕ
compress h block = sums (rounds K (schedule block) h) h

-- The digest: the initial hash value, after all blocks of the padded message, written out as bytes.
-- A block has 64 bytes.
unfoldable pub sha256 : List ℕ → List ℕ
sha256 m = flat_map word_bytes (absorb compress 64 (length (pad m) / 64) (pad m) H0)

-- SHA-256 as a hash, with its identifier in TPM 2.0.
abbrev pub sha256_hashing : Hashing
sha256_hashing = record { digest = sha256; size = 32; identifier = 0x000b }
