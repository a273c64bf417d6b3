-- Numbers of eight bytes.
use Rattle.std.proofs.Common.{◌≡◌, ℕ, ◌+◌, ◌*◌, ◌^◌, ◌<◌, List, [], ◌∷◌, length, get_or, refl, ap, arith}
use Rattle.std.proofs.lemmas.Slice.Eq.{text_from_reads}
use Rattle.block.specs.Layout.{big_endian, count_length}

pub eight_bytes : (bs : List ℕ) → length bs ≡ count_length → big_endian bs ≡ get_or bs 0 0 * 72057594037927936 + get_or bs 1 0 * 281474976710656 + get_or bs 2 0 * 1099511627776 + get_or bs 3 0 * 4294967296 + get_or bs 4 0 * 16777216 + get_or bs 5 0 * 65536 + get_or bs 6 0 * 256 + get_or bs 7 0
eight_bytes bs h =
    let each : List ℕ = get_or bs 0 0 ∷ get_or bs 1 0 ∷ get_or bs 2 0 ∷ get_or bs 3 0 ∷ get_or bs 4 0 ∷ get_or bs 5 0 ∷ get_or bs 6 0 ∷ get_or bs 7 0 ∷ [] in
    let is : big_endian bs ≡ big_endian each = ap big_endian (text_from_reads bs each h (refl, (refl, (refl, (refl, (refl, (refl, (refl, (refl, tt))))))))) in
    omega (arith, is)

pub eight_fit : (bs : List ℕ) → length bs ≡ count_length → ((k : ℕ) → get_or bs k 0 < 256) → big_endian bs < 2 ^ 64
eight_fit bs h s = omega (arith, eight_bytes bs h, s 0, s 1, s 2, s 3, s 4, s 5, s 6, s 7)
