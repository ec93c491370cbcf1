use mathlib.Core.Path.{◌≡◌}
use mathlib.Core.Bool.{Bool}
use mathlib.Core.List.{List}
use Prim.Native.Nat.{ℕ}
use lib.Dec.{eqb}
use lib.ListN.{get_or}
use Rattle.lemmas.specs.Lists.{count, upto}
use Rattle.sheet.proofs.count_open.Given as goal

abbrev pub is_open : List ℕ → ℕ → Bool
is_open sheet b = eqb 2 (get_or sheet b 0)

abbrev pub invariant-loop-state : goal.invariant-loop-state
invariant-loop-state l = l.n ≡ count (is_open l.sheet) (upto l.state-index)
