use Rattle.std.proofs.Common.{map}
use Rattle.std.specs.Option.{option_map}
use Rattle.arrays.specs.Items.{items}
use Rattle.text.specs.Cut.{further}
use Rattle.policy.specs.Views.{digest_bytes}
use Rattle.calls.proofs.Fields.{Before}
use Rattle.calls.proofs.read_or.fill_digests.Given as goal

abbrev pub invariant-loop-field : goal.invariant-loop-field
invariant-loop-field l =
    (goal.iterator-loop-field).can_next l.field-iterator
    × (goal.iterator-loop-field).is_finite l.field-iterator
    × Before (further (option_map (λ x. x.now) l.fn.rest)) (map digest_bytes (items l.digests)) (further (option_map (λ x. x.now) l.field-iterator.rest))
