use Rattle.std.proofs.Common.{◌≡◌, false, [], ◌∷◌, ◌++◌, eqb, map, length, take, sym, ap, ◌∙◌, arith, rules}
use Rattle.std.proofs.lemmas.Bool.{ne_eqb}
use Rattle.std.proofs.lemmas.List.{length-map, length-take-le, map_more, map_push}
use Rattle.std.proofs.lemmas.List.Folds.{list_all-map, list_all_at}
use Rattle.std.specs.Result.{result_ok}
use Rattle.arrays.specs.Items.{items}
use Rattle.interfaces.specs.Hashing.{digest_length}
use Rattle.policy.specs.Views.{digest_bytes}
use Rattle.calls.specs.Calls.{all_sized}
use Rattle.calls.proofs.Fields.{put, roomy, sized_more}
use Rattle.calls.proofs.call.Call.or.Goals as goal

pub returns-in_err-bytes : goal.returns-in_err-bytes
returns-in_err-bytes c =
    let xs = c.args.digests.now in
    let here = list_all_at (λ x. eqb (length x.now) digest_length) xs c.loop-digest.digest-index _ c.loop-digest-test.true (ne_eqb _ _ c.in_err-bytes.ensures.1) in
    let other : all_sized digest_length (map (λ x. x.now) xs) ≡ false = list_all-map _ (λ x. x.now) xs ∙ here in
    search rules

pub unwrap-requires : goal.unwrap-requires
unwrap-requires c =
    let xs = c.args.digests.now in
    let i = c.loop-digest.digest-index in
    let filled = c.loop-digest.all in
    roomy _ _ _ _ _ (omega (arith, ap length c.loop-digest.invariant.filled, length-map (items filled) digest_bytes, length-map (take i xs) (λ x. x.now), length-take-le i xs)) c.push.ensures

pub loop-digest-preserved : goal.loop-digest-preserved
loop-digest-preserved c =
    let inv = c.loop-digest.invariant in
    let more = map_more (λ x. x.now) c.args.digests.now c.loop-digest.digest-index (record { ref_ptr = (0, 0); now = [] }) c.loop-digest-test.true in
    let front = map digest_bytes (items c.loop-digest.all) in
    let grown = ap (map digest_bytes) (put _ _ _ _ _ _ (ap result_ok c.unwrap.ensures) c.push.ensures).joined ∙ map_push digest_bytes (items c.loop-digest.all) _ in
    let chunk = c.in_ok-bytes.ensures.1 in
    record {
      filled = grown ∙ (λ i. inv.filled i ++ chunk.same i ∷ []) ∙ sym more;
      sized = ap (all_sized digest_length) grown ∙ sized_more front _ inv.sized (ap length chunk.same ∙ chunk.long);
    }
