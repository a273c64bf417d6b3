use Rattle.std.proofs.Common.{◌≡◌, ℕ, suc, ◌+◌, ◌*◌, ◌/◌, ◌<◌, List, [], length, get_or, take, drop, set, refl, ap, ◌∙◌, arith}
use Rattle.std.specs.Simd.{first_chunks}
use lib.Bits.{bit_xor}
use Rattle.std.proofs.lemmas.List.{get_or-take}
use Rattle.blocks.proofs.Chunks.{chunk_at}
use Rattle.sha3.specs.Sha3.{first_lane, added}
use Rattle.sha3.proofs.sponge.add_lanes.Goals as goal

pub loop-i-init : goal.loop-i-init
unfolding added
loop-i-init c = refl

front_lane : (m : List ℕ) → first_lane (take 8 m) ≡ first_lane m
unfolding first_lane
front_lane m =
    cc (at 0 (omega arith), at 1 (omega arith), at 2 (omega arith), at 3 (omega arith), at 4 (omega arith), at 5 (omega arith), at 6 (omega arith), at 7 (omega arith))
  where
    at : (j : ℕ) → j < 8 → get_or (take 8 m) j 0 ≡ get_or m j 0
    at j h = get_or-take 8 m j 0 h

lane_at : (lanes : List (List ℕ)) (block : List ℕ) (i : ℕ) → lanes ≡ first_chunks 8 17 block → i < 17 → first_lane (get_or lanes i []) ≡ first_lane (drop (8 * i) block)
lane_at lanes block i e h = rw (e, chunk_at 8 17 i block [] h) (front_lane (drop (8 * i) block))

one_more : (i x : ℕ) (start block s : List ℕ) → s ≡ added i start block → x ≡ first_lane (drop (8 * i) block) → set s i (bit_xor (get_or s i 0) x) ≡ added (i + 1) start block
unfolding added
one_more i x start block s es ex = let more : i + 1 ≡ suc i = omega arith in rw (more, es, ex)

pub loop-i-preserved : goal.loop-i-preserved
loop-i-preserved c =
    let i = c.loop-i.i in
    let block = c.args.block.now in
    let many : length block / 8 ≡ 17 = omega arith in
    let lanes = c.as_chunks.ensures.front ∙ ap (λ k. first_chunks 8 k block) many in
    let lane = lane_at c.as_chunks.result.0.now block i lanes (omega arith) in
    one_more i c.lane_of.result c.args.start block c.loop-i.s c.loop-i.invariant (c.lane_of.ensures ∙ lane)
