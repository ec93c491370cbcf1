-- The lines of the entries below k stand at the front.
-- Assumes nothing.
use Rattle.printout.proofs.Lines.{Front}
use Rattle.printout.proofs.put_table.Given as goal

abbrev pub invariant-loop-k : goal.invariant-loop-k
invariant-loop-k l = Front l.out l.at l.k
