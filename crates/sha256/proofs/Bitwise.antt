-- Functions of three words that go bit by bit are equal if they are on single bits.
use Rattle.std.proofs.Common.{◌≡◌, ℕ, zero, suc, ◌-◌, ◌/◌, ◌%◌, ◌^◌, ◌<◌, refl, pow-suc, arith}
use lib.Bits.{bit_and, bit_xor, and_shr, and_mod, xor_shr, xor_mod}

half_and : (a b : ℕ) → bit_and a b / 2 ≡ bit_and (a / 2) (b / 2)
half_and a b = and_shr a b 1

half_xor : (a b : ℕ) → bit_xor a b / 2 ≡ bit_xor (a / 2) (b / 2)
half_xor a b = xor_shr a b 1

odd_and : (a b : ℕ) → bit_and a b % 2 ≡ bit_and (a % 2) (b % 2)
odd_and a b = and_mod a b 1

odd_xor : (a b : ℕ) → bit_xor a b % 2 ≡ bit_xor (a % 2) (b % 2)
odd_xor a b = xor_mod a b 1

bit : (P : ℕ → Type 0) → P 0 → P 1 → (a : ℕ) → a < 2 → P a
bit P p0 p1 zero h = p0
bit P p0 p1 (suc zero) h = p1
bit P p0 p1 (suc (suc a)) h = absurd (omega arith)

-- Of words of k bits: the lowest bit comes from the lowest bits, and the others from the others.
abbrev ByBits : (ℕ → ℕ → ℕ → ℕ → ℕ) → Type 0
ByBits f =
    (k x y z : ℕ) → x < 2 ^ suc k → (f (suc k) x y z / 2 ≡ f k (x / 2) (y / 2) (z / 2)) × (f (suc k) x y z % 2 ≡ f 1 (x % 2) (y % 2) (z % 2))

halved : (k x : ℕ) → x < 2 ^ suc k → x / 2 < 2 ^ k
halved k x h = omega (arith, pow-suc 2 k)

same : (f g : ℕ → ℕ → ℕ → ℕ → ℕ) → ByBits f → ByBits g → f 0 0 0 0 ≡ g 0 0 0 0 → ((a b c : ℕ) → a < 2 → b < 2 → c < 2 → f 1 a b c ≡ g 1 a b c) → (k x y z : ℕ) → x < 2 ^ k → y < 2 ^ k → z < 2 ^ k → f k x y z ≡ g k x y z
same f g ff gg none one zero x y z hx hy hz =
    let ex : x ≡ 0 = omega arith in
    let ey : y ≡ 0 = omega arith in
    let ez : z ≡ 0 = omega arith in
    rw (ex, ey, ez) none
same f g ff gg none one (suc k) x y z hx hy hz =
    let rest = same f g ff gg none one k (x / 2) (y / 2) (z / 2) (halved k x hx) (halved k y hy) (halved k z hz) in
    let low = one (x % 2) (y % 2) (z % 2) (omega arith) (omega arith) (omega arith) in
    let f-bits = ff k x y z hx in
    let g-bits = gg k x y z hx in
    omega (arith, f-bits.0, f-bits.1, g-bits.0, g-bits.1, rest, low)

eight : (f g : ℕ → ℕ → ℕ → ℕ) → f 0 0 0 ≡ g 0 0 0 → f 0 0 1 ≡ g 0 0 1 → f 0 1 0 ≡ g 0 1 0 → f 0 1 1 ≡ g 0 1 1 → f 1 0 0 ≡ g 1 0 0 → f 1 0 1 ≡ g 1 0 1 → f 1 1 0 ≡ g 1 1 0 → f 1 1 1 ≡ g 1 1 1 → (a b c : ℕ) → a < 2 → b < 2 → c < 2 → f a b c ≡ g a b c
eight f g e0 e1 e2 e3 e4 e5 e6 e7 a b c ha hb hc =
    bit (λ a. f a b c ≡ g a b c)
    (bit (λ b. f 0 b c ≡ g 0 b c) (bit (λ c. f 0 0 c ≡ g 0 0 c) e0 e1 c hc) (bit (λ c. f 0 1 c ≡ g 0 1 c) e2 e3 c hc) b hb)
    (bit (λ b. f 1 b c ≡ g 1 b c) (bit (λ c. f 1 0 c ≡ g 1 0 c) e4 e5 c hc) (bit (λ c. f 1 1 c ≡ g 1 1 c) e6 e7 c hc) b hb)
    a ha

abbrev ch_plain : ℕ → ℕ → ℕ → ℕ → ℕ
ch_plain k x y z = bit_xor (bit_and x y) (bit_and (2 ^ k - 1 - x) z)

abbrev ch_fast : ℕ → ℕ → ℕ → ℕ → ℕ
ch_fast k x y z = bit_xor z (bit_and x (bit_xor y z))

abbrev maj_plain : ℕ → ℕ → ℕ → ℕ → ℕ
maj_plain k x y z = bit_xor (bit_xor (bit_and x y) (bit_and x z)) (bit_and y z)

abbrev maj_fast : ℕ → ℕ → ℕ → ℕ → ℕ
maj_fast k x y z = bit_xor y (bit_and (bit_xor x y) (bit_xor y z))

ch_plain_bits : ByBits ch_plain
ch_plain_bits k x y z h =
    let w = 2 ^ suc k - 1 - x in
    let half : w / 2 ≡ 2 ^ k - 1 - x / 2 = omega (arith, pow-suc 2 k) in
    let odd : w % 2 ≡ 1 - x % 2 = omega (arith, pow-suc 2 k) in (
      cc (half_xor (bit_and x y) (bit_and w z), half_and x y, half_and w z),
      cc (odd_xor (bit_and x y) (bit_and w z), odd_and x y, odd_and w z),
    )

ch_fast_bits : ByBits ch_fast
ch_fast_bits k x y z h = (
  cc (half_xor z (bit_and x (bit_xor y z)), half_and x (bit_xor y z), half_xor y z),
  cc (odd_xor z (bit_and x (bit_xor y z)), odd_and x (bit_xor y z), odd_xor y z),
)

maj_plain_bits : ByBits maj_plain
maj_plain_bits k x y z h =
    let xy = bit_and x y in
    let xz = bit_and x z in
    let yz = bit_and y z in (
      cc (half_xor (bit_xor xy xz) yz, half_xor xy xz, half_and x y, half_and x z, half_and y z),
      cc (odd_xor (bit_xor xy xz) yz, odd_xor xy xz, odd_and x y, odd_and x z, odd_and y z),
    )

maj_fast_bits : ByBits maj_fast
maj_fast_bits k x y z h =
    let xy = bit_xor x y in
    let yz = bit_xor y z in (
      cc (half_xor y (bit_and xy yz), half_and xy yz, half_xor x y, half_xor y z),
      cc (odd_xor y (bit_and xy yz), odd_and xy yz, odd_xor x y, odd_xor y z),
    )

pub ch_same : (k x y z : ℕ) → x < 2 ^ k → y < 2 ^ k → z < 2 ^ k → ch_plain k x y z ≡ ch_fast k x y z
ch_same =
    same ch_plain ch_fast ch_plain_bits ch_fast_bits refl
    (eight (ch_plain 1) (ch_fast 1) refl refl refl refl refl refl refl refl)

pub maj_same : (k x y z : ℕ) → x < 2 ^ k → y < 2 ^ k → z < 2 ^ k → maj_plain k x y z ≡ maj_fast k x y z
maj_same =
    same maj_plain maj_fast maj_plain_bits maj_fast_bits refl
    (eight (maj_plain 1) (maj_fast 1) refl refl refl refl refl refl refl refl)
