use mathlib.Core.Path.{◌≡◌}
use Prim.Native.Nat.{◌≤◌}
use lib.ListN.{length}
use Rattle.index.specs.Index.{packed_rules}
use Rattle.index.proofs.Packing.{rules_below}
use Rattle.index.proofs.pack.Given as goal

abbrev pub invariant-loop-i : goal.invariant-loop-i
invariant-loop-i l =
    (l.m ≤ l.i) × (length l.packed ≡ 4096) × (packed_rules l.packed l.m ≡ rules_below l.t.maker.now l.t.depot.now l.i)
