-- The states are the sheet's and those of the lines above, none of which is wrong.
use Rattle.why.proofs.Checking.{Checked}
use Rattle.why.proofs.check.first_wrong.Given as goal

abbrev pub invariant-loop-k : goal.invariant-loop-k
invariant-loop-k l = Checked l.order.tables.maker.now l.order.tables.depot.now l.order.sheet.now l.lines l.states l.k
