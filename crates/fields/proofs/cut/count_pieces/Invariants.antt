use mathlib.Core.Path.{◌≡◌}
use Prim.Native.Nat.{◌+◌, ◌≤◌}
use lib.ListN.{length, drop}
use Rattle.fields.specs.Cuts.{cut_at}
use Rattle.fields.proofs.cut.count_pieces.Given as goal

abbrev pub invariant-loop-c : goal.invariant-loop-c
invariant-loop-c l =
    (l.n ≤ l.c-index + 1) × (l.n + length (cut_at l.mark (drop l.c-index l.s)) ≡ length (cut_at l.mark l.s) + 1)
