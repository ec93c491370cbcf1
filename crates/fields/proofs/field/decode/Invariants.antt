use mathlib.Core.Path.{◌≡◌}
use Rattle.fields.proofs.Decoding.{Decoding}
use Rattle.fields.proofs.field.decode.Given as goal

abbrev pub invariant-loop-pair : goal.invariant-loop-pair
invariant-loop-pair l =
    (l.pair-iterator.size ≡ 2) × Decoding l.field l.initial.bytes l.at l.bytes l.next l.pair-iterator.rest.now
