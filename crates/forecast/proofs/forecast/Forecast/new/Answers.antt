use Rattle.std.proofs.Common.{map, ap, ◌∙◌}
use Rattle.forecast.specs.Plans.{forecast_snapshot}
use Rattle.forecast.specs.Overlays.{forecast_none}
use Rattle.forecast.specs.Views.{plan_of}
use Rattle.forecast.proofs.forecast.Forecast.new.Goals as goal

pub returns-clause-means : goal.returns-clause-means
returns-clause-means g c =
    let s = g.S.ReaderState.observed c.args.below in
    ap (λ es. forecast_snapshot (map plan_of es) s) c.new-planned.ensures ∙ forecast_none s
