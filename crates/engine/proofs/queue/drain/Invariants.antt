use Prim.Native.Nat.{◌-◌, ◌≤◌}
use Rattle.theory.specs.Steps.{Grown}
use Rattle.engine.specs.Queue.{rules_of, Lent, AllWait}
use Rattle.engine.proofs.queue.drain.Given as goal

abbrev pub invariant-loop-head : goal.invariant-loop-head
invariant-loop-head l =
    (l.head ≤ l.tail)
    × Lent l.states l.queue l.tail
    × Grown (rules_of l.index) l.initial.states l.states
    × AllWait (rules_of l.index) l.states l.queue l.head l.tail

abbrev pub decreases-loop-head : goal.decreases-loop-head
decreases-loop-head l = 256 - l.head
