use Rattle.std.proofs.Common.{map, sym, ap, subst, ◌∙◌, arith}
use Rattle.std.specs.Option.{option_map}
use Rattle.std.proofs.lemmas.List.{length-map, map_push}
use Rattle.arrays.specs.Items.{items}
use Rattle.text.specs.Cut.{further}
use Rattle.policy.specs.Views.{digest_bytes}
use Rattle.calls.proofs.Fields.{Before, no_digest, not_put, one_more, put, too_many}
use Rattle.calls.proofs.read_or.fill_digests.Goals as goal

pub returns-in_err-bytes : goal.returns-in_err-bytes
returns-in_err-bytes c = rw c.from_residual.ensures (no_digest _ _ _ _ _ c.loop-field.invariant.2 c.in-Some.ensures.steps (sym c.decode.ensures ∙ c.in_err-bytes.was))

pub loop-field-preserved : goal.loop-field-preserved
loop-field-preserved c =
    let behind = put _ _ _ _ _ _ (sym c.ok.ensures.value ∙ c.in_ok-ok.was) c.push.ensures in
    let grown = ap (map digest_bytes) behind.joined ∙ map_push digest_bytes (items c.loop-field.digests) _ in
    (tt, tt, subst (λ ds. Before (further (option_map (λ x. x.now) c.args.rest)) ds (further (option_map (λ x. x.now) c.next.new.self.rest))) (sym grown) (one_more _ _ _ _ _ c.loop-field.invariant.2 c.in-Some.ensures.steps _ (sym c.decode.ensures ∙ c.in_ok-bytes.was)))

pub returns-in_err-ok : goal.returns-in_err-ok
returns-in_err-ok c =
    let full = not_put _ _ _ _ _ (sym c.ok.ensures.value ∙ c.in_err-ok.was) c.push.ensures in
    rw c.from_residual-in_err-ok.ensures (too_many _ _ _ _ _ c.loop-field.invariant.2 c.in-Some.ensures.steps (omega (arith, full.over, length-map (items c.loop-field.digests) digest_bytes)))
