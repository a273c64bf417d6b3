use Rattle.std.proofs.Common.{◌≡◌, true, ap, ◌∙◌, rules}
use Rattle.std.specs.Iterator.Adapters.{enumerate_source}
use Rattle.session.specs.Runs.{run_fits}
use Rattle.session.proofs.Running.{going_more, going_stopped}
use Rattle.session.proofs.session.Session.run.Goals as goal

pub loop-i-preserved : goal.loop-i-preserved
loop-i-preserved g c =
    let kept = c.loop-i.invariant.2 in
    let step = c.in-Some.ensures.steps in
    let going = going_more _ _ _ _ _ _ _ _ _ (enumerate_source c.next.new.self).rest.now _ _ _ _ (ap g.K.Kind.checked kept.kind) (ap g.H.Hash.meaning kept.hash) step.0 c.loop-i.invariant.3 c.run_line.ensures.answer c.run_line.ensures.after _ (search rules) step.2 in
    (search rules, search rules, record { hash = c.run_line.ensures.kept.hash ∙ kept.hash; kind = c.run_line.ensures.kept.kind ∙ kept.kind }, going)

pub returns-in_err-map_err : goal.returns-in_err-map_err
returns-in_err-map_err g c =
    let kept = c.loop-i.invariant.2 in
    let step = c.in-Some.ensures.steps in
    let fit : run_fits c.args.text.now ≡ true = search rules in
    record {
      ran = going_stopped _ _ _ _ _ _ _ _ _ (enumerate_source c.next.new.self).rest.now _ _ _ _ (ap g.K.Kind.checked kept.kind) (ap g.H.Hash.meaning kept.hash) step.0 c.loop-i.invariant.3 c.run_line.ensures.answer c.run_line.ensures.after c.from_residual.result (λ e. search rules) (λ x e. search rules) fit;
      kept = record { hash = c.run_line.ensures.kept.hash ∙ kept.hash; kind = c.run_line.ensures.kept.kind ∙ kept.kind };
    }
