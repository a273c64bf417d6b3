use Rattle.std.proofs.Common.{◌≡◌, [], ◌+◌, ◌*◌, ◌/◌, ◌≤◌, ◌++◌, length, get_or, refl, ap, ◌∙◌, arith}
use Rattle.std.specs.Simd.{first_chunks}
use Rattle.blocks.proofs.Chunks.{chunk_at}
use Rattle.sha256.specs.Constants.{K}
use Rattle.sha256.specs.Sha256.{extended, schedule, rounds}
use Rattle.sha256.proofs.Steps.{rounds-on, rounds_all}
use Rattle.sha256.proofs.Words.{of_parts}
use Rattle.sha256.proofs.Window.{length-schedule, window_moves, window_words}
use Rattle.sha256.proofs.rounds.all_rounds.Goals as goal

length-K : length K ≡ 64
unfolding K
length-K = refl

chunks : (c : goal.After-next_words-next) → c.as_chunks-2.result.0.now ≡ first_chunks 4 16 K
unfolding K
chunks c = c.as_chunks-2.ensures.front

pub loop-four-init : goal.loop-four-init
unfolding extended rounds
loop-four-init c =
    let block = c.args.block.now in
    let four : length block / 16 ≡ 4 = omega arith in
    let parts = c.as_chunks.ensures.front ∙ ap (λ k. first_chunks 16 k block) four in (
      of_parts c.as_chunks.result.0.now block _ _ _ _ parts c.words_of-a.ensures c.words_of-b.ensures
          c.words_of-c.ensures c.words_of-d.ensures,
      refl,
    )

pub loop-four-preserved : goal.loop-four-preserved
loop-four-preserved c =
    let i = c.loop-four.four-index in
    let n = 4 * i in
    let w = schedule c.args.block.now in
    let on : 4 * (i + 1) ≡ n + 4 = omega arith in
    let in_K : n ≤ length K = omega (arith, length-K) in
    let in_w : n ≤ length w = omega (arith, length-schedule c.args.block.now) in
    let four : length c.loop-four.a ≡ 4 = c.loop-four.auto.a.0 in
    let rest = c.loop-four.b ++ (c.loop-four.c ++ c.loop-four.d) in
    let constants = ap (λ cs. get_or cs i []) (chunks c) ∙ chunk_at 4 16 i K [] (omega arith) in
    let moved = window_moves c.args.block.now c.loop-four.a c.loop-four.b c.loop-four.c c.loop-four.d
    c.next_words-next.result n four c.loop-four.invariant.0 c.next_words-next.ensures in
    let words = window_words c.args.block.now c.loop-four.a rest n four (omega arith) c.loop-four.invariant.0 in (
      rw on moved,
      rounds-on K w c.args.start c.loop-four.v c.four_rounds-later.result _ c.loop-four.a n (4 * (i + 1)) on in_K in_w
          constants words c.loop-four.invariant.1 c.four_rounds-later.ensures,
    )

pub returns : goal.returns
returns c =
    let w = schedule c.args.block.now in
    rounds_all K w c.args.start c.loop-four.v (4 * c.loop-four.four-index) (omega (arith, length-K))
    (omega (arith, length-schedule c.args.block.now)) c.loop-four.invariant.1
