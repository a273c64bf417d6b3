-- Sums of words that wrap at each step are the sum that wraps once.
use Rattle.std.proofs.Common.{◌≡◌, ℕ, ◌+◌, ◌%◌, ◌^◌, arith}

pub four_terms : (a b c d : ℕ) → (((a + b) % 2 ^ 32 + c) % 2 ^ 32 + d) % 2 ^ 32 ≡ (a + b + c + 0 + d) % 2 ^ 32
four_terms a b c d = omega arith

pub last_two : (a b c : ℕ) → (a + b + c) % 2 ^ 32 ≡ (a + 0 + (b + c) % 2 ^ 32) % 2 ^ 32
last_two a b c = omega arith

-- The terms of a word of the schedule, the other way round; the last term comes first or second of two.
pub turned : (a b c d : ℕ) → (((a + b) % 2 ^ 32 + c) % 2 ^ 32 + d) % 2 ^ 32 ≡ (d + c + b + a) % 2 ^ 32
turned a b c d = omega arith

pub first_of_two : (a b c d : ℕ) → ((((a + b) % 2 ^ 32 + c) % 2 ^ 32 + d) % 2 ^ 32 + 0) % 2 ^ 32 ≡ (d + c + b + a) % 2 ^ 32
first_of_two a b c d = omega arith

pub second_of_two : (a b c d : ℕ) → ((((a + b) % 2 ^ 32 + c) % 2 ^ 32 + 0) % 2 ^ 32 + d) % 2 ^ 32 ≡ (d + c + b + a) % 2 ^ 32
second_of_two a b c d = omega arith
