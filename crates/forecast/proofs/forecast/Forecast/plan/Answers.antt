use Rattle.std.proofs.Common.{◌≡◌, ◌<◌, cond, Ok, Err, eqb, length, map, sym, refl, ap, ◌∙◌, rules}
use Rattle.arrays.specs.Items.{items}
use Rattle.interfaces.specs.Checks.{refused_with, settled}
use Rattle.interfaces.specs.States.{pcr_count, pcr_length}
use Rattle.interfaces.specs.Views.{pcr_bytes}
use Rattle.tables.specs.Tables.{full_flaw, put_under}
use Rattle.tables.proofs.Places.{alike, put_left, put_told}
use Rattle.tables.specs.Puts.{has_room}
use Rattle.interfaces.specs.declared.code.Code.TheVariants.{Memory}
use Rattle.forecast.specs.declared.planned.PlannedPcr.{PlannedPcr}
use Rattle.forecast.specs.Limits.{plan_count}
use Rattle.forecast.specs.Plans.{forecast_snapshot, plan_flaw}
use Rattle.forecast.specs.Views.{plan_of, plans_of}
use Rattle.forecast.specs.Overlays.{forecast_put, plan_passes}
use Rattle.forecast.proofs.forecast.Forecast.plan.Goals as goal

pub returns : goal.returns
returns g c =
    let f = c.args.self.now in
    let plans = plans_of f.planned in
    let s = g.S.ReaderState.observed f.below in
    let index = c.args.index in
    let value = c.args.value.now in
    let is : pcr_bytes c.in_ok-value.value ≡ value = search rules in
    let long : length value ≡ pcr_length = ap length (sym is) ∙ c.in_ok-value.value.long in
    let within : index < pcr_count = search rules in
    let flaw : full_flaw eqb plan_count plans index ≡ plan_flaw plans index value = sym (plan_passes plans index value long within) in
    let e : PlannedPcr = record { index = index; value = c.in_ok-value.value } in
    let told : c.map_err.result ≡ cond (has_room (alike plan_of eqb) plan_count (items f.planned) e) (Ok tt) (Err Memory) = search rules in
    let left = ap (map plan_of) c.put.ensures.after ∙ put_left plan_of eqb plan_count (items f.planned) e in
    let after = left ∙ (λ i. settled (flaw i) (put_under eqb plans index (is i)) plans) in
    record {
      answer = told ∙ put_told plan_of eqb plan_count (items f.planned) e ∙ ap (λ r. refused_with r tt) flaw;
      plans = after;
      below = refl;
      means = ap (λ p. forecast_snapshot p s) after ∙ forecast_put plans s index value (plan_flaw plans index value);
    }
