-- The fewest and the most digests of an `or`.
use Rattle.std.specs.Prelude.{ℕ}

abbrev pub fewest_digests : ℕ
fewest_digests = 2

abbrev pub most_digests : ℕ
most_digests = 8
