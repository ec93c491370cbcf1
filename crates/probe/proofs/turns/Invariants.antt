-- The loop's invariant: what is at hand lies in its buffer.
-- Assumes nothing.
use Prim.Native.Nat.{◌≤◌}
use lib.ListN.{length}
use Rattle.probe.proofs.turns.Given as goal

abbrev pub invariant-loop : goal.invariant-loop
invariant-loop g l = l.state.size ≤ length l.input
