-- The most PCRs that a forecast plans.
use Rattle.std.specs.Prelude.{ℕ}

abbrev pub plan_count : ℕ
plan_count = 8
