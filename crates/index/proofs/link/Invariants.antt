use Prim.Native.Nat.{◌*◌}
use Rattle.index.specs.Index.{Linked}
use Rattle.index.proofs.link.Given as goal

abbrev pub invariant-loop-j : goal.invariant-loop-j
invariant-loop-j l = Linked l.packed (4 * l.j) l.first l.next
