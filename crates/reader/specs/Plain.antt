-- With nothing planned, the reader's state is its own state.
use Rattle.std.specs.Prelude.{◌≡◌, []}
use Rattle.std.proofs.Common.{ap, ◌∙◌, subst, sym}
use Rattle.interfaces.specs.States.{Snapshot}
use Rattle.forecast.specs.Plans.{Plans, forecast_snapshot}
use Rattle.forecast.specs.Overlays.{forecast_none}

pub plain : (plans : Plans) (s : Snapshot) → plans ≡ [] → forecast_snapshot plans s ≡ s
plain plans s e = ap (λ p. forecast_snapshot p s) e ∙ forecast_none s

-- what a change does to its own state, it does to the reader's
pub carried : (plans : Plans) (s s' : Snapshot) (does : Snapshot → Snapshot → Type 0) → plans ≡ [] → does s s' → does (forecast_snapshot plans s) (forecast_snapshot plans s')
carried plans s s' does e h = subst (λ t. does t (forecast_snapshot plans s')) (sym (plain plans s e)) (subst (does s) (sym (plain plans s' e)) h)
