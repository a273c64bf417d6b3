use Rattle.std.proofs.Common.{◌≡◌, ◌*◌, ◌++◌, take, drop}
use Rattle.sha256.specs.Constants.{K}
use Rattle.sha256.specs.Sha256.{words, extended, schedule, rounds}
use Rattle.sha256.proofs.rounds.all_rounds.Given as goal

abbrev pub invariant-loop-four : goal.invariant-loop-four
invariant-loop-four l =
    (l.a ++ (l.b ++ (l.c ++ l.d)) ≡ drop (4 * l.four-index) (extended (4 * l.four-index) (words 16 l.block)))
    × (l.v ≡ rounds (take (4 * l.four-index) K) (take (4 * l.four-index) (schedule l.block)) l.initial.v)
