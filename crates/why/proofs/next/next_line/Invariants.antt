-- What the records so far give.
use Rattle.why.proofs.Offers.{SoFar}
use Rattle.why.proofs.next.next_line.Given as goal

abbrev pub invariant-loop-number : goal.invariant-loop-number
invariant-loop-number l = SoFar l.t.maker.now l.t.depot.now l.states l.t.n l.number l.below l.next
