use Rattle.std.proofs.Common.{sym, ap, ◌∙◌}
use Rattle.policy.specs.Reading.{refused_by}
use Rattle.policy.specs.Views.{assertion_of}
use Rattle.conditions.specs.Meeting.{unmet}
use Rattle.conditions.proofs.Unmet.{called}
use Rattle.conditions.proofs.meet.meet.Goals as goal

pub returns-in-Pcr-clause-value : goal.returns-in-Pcr-clause-value
returns-in-Pcr-clause-value g c =
    let h = g.H.Hash.meaning c.args.hash.now in
    let s = g.S.ReaderState.observed c.args.state.now in
    called _ _ _ c.check_pcrs.ensures c.map_err.ensures.cases ∙ ap (λ a. refused_by (unmet h s (assertion_of a)) tt) (sym c.in-Pcr.is)

pub returns-in-Time-clause-value : goal.returns-in-Time-clause-value
returns-in-Time-clause-value g c =
    let h = g.H.Hash.meaning c.args.hash.now in
    let s = g.S.ReaderState.observed c.args.state.now in
    called _ _ _ c.check_time.ensures c.map_err-in-Time.ensures.cases ∙ ap (λ a. refused_by (unmet h s (assertion_of a)) tt) (sym c.in-Time.is)
