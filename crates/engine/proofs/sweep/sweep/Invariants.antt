use Rattle.engine.specs.Queue.{Lent}
use Rattle.engine.proofs.Sweeping.{SoFar}
use Rattle.engine.proofs.sweep.sweep.Given as goal

abbrev pub invariant-loop-i : goal.invariant-loop-i
invariant-loop-i l =
    Lent l.states l.queue l.tail
    × SoFar l.t.maker.now l.t.depot.now l.back l.initial.states l.states l.initial.queue l.queue l.start l.tail l.i
