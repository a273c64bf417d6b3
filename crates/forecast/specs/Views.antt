-- What the table of planned PCRs means.
use Rattle.std.specs.Prelude.{ℕ, List, map}
use Rattle.arrays.specs.declared.array_vec.ArrayVec.{ArrayVec}
use Rattle.arrays.specs.Items.{items}
use Rattle.interfaces.specs.Views.{pcr_bytes}
use Rattle.forecast.specs.declared.planned.PlannedPcr.{PlannedPcr}
use Rattle.forecast.specs.Limits.{plan_count}
use Rattle.forecast.specs.Plans.{Plans}

abbrev pub plan_of : PlannedPcr → ℕ × List ℕ
plan_of p = (p.index, pcr_bytes p.value)

abbrev pub plans_of : ArrayVec PlannedPcr plan_count → Plans
plans_of p = map plan_of (items p)
