use Rattle.std.proofs.Common.{◌≡◌, ◌/◌, length, ap, ◌∙◌, arith}
use Rattle.std.specs.Simd.{first_chunks}
use Rattle.sha256.proofs.Words.{of_chunks}
use Rattle.sha256.proofs.schedule.words_of.Goals as goal

pub returns : goal.returns
returns c =
    let bytes = c.args.bytes.now in
    let four : length bytes / 4 ≡ 4 = omega arith in
    of_chunks c.as_chunks.result.0.now bytes _ _ _ _ (c.as_chunks.ensures.front ∙ ap (λ k. first_chunks 4 k bytes) four) c.word_of.ensures c.word_of-2.ensures c.word_of-3.ensures c.word_of-4.ensures
