use Rattle.engine.specs.Queue.{Lent}
use Rattle.engine.proofs.Visiting.{Above}
use Rattle.engine.proofs.queue.visit.Given as goal

abbrev pub invariant-loop-e : goal.invariant-loop-e
invariant-loop-e l =
    Lent l.states l.queue l.tail
    × Above l.index.packed l.index.rules l.b l.initial.states l.states l.initial.queue l.queue l.start l.tail l.e

abbrev pub decreases-loop-e : goal.decreases-loop-e
decreases-loop-e l = l.e
