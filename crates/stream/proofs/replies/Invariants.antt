use Prim.Native.Nat.{◌-◌}
use lib.ListN.{length}
use Rattle.stream.proofs.Replying.{Replying}
use Rattle.stream.proofs.replies.Given as goal

abbrev pub invariant-loop-from : goal.invariant-loop-from
invariant-loop-from l = Replying l.input (length l.initial.text) l.text l.from l.at

abbrev pub decreases-loop-from : goal.decreases-loop-from
decreases-loop-from l = length l.input - l.from
