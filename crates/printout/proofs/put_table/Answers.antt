-- `printout::put_table` meets its contract.
-- Assumes nothing.
use mathlib.Core.Path.{refl}
use native.Mathlib.Omega.{arith}
use Rattle.printout.specs.Printed.{printed}
use Rattle.printout.proofs.Lines.{entry_short, line_added}
use Rattle.printout.proofs.put_table.Goals as goal

pub loop-k-init : goal.loop-k-init
unfolding printed
loop-k-init c = record { room = omega arith; below = omega arith; lines = refl }

pub put_line-at-requires : goal.put_line-at-requires
put_line-at-requires c = omega (arith, entry_short c.kth.ensures (omega arith))

pub loop-k-preserved : goal.loop-k-preserved
loop-k-preserved c = line_added (omega arith) c.loop-k.invariant c.put_line-at.ensures c.kth.ensures
