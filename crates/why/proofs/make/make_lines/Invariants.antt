-- What is written are the first k lines, and the rest follows from the states.
use Rattle.why.proofs.Made.{Making}
use Rattle.why.proofs.make.make_lines.Given as goal

abbrev pub invariant-loop-k : goal.invariant-loop-k
invariant-loop-k l = Making l.order.tables.maker.now l.order.tables.depot.now l.order.sheet.now l.initial.out l.out l.states l.order.tables.n l.k
