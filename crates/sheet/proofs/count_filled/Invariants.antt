use mathlib.Core.Path.{◌≡◌}
use mathlib.Core.Bool.{Bool, not, ◌&&◌}
use mathlib.Core.List.{List}
use Prim.Native.Nat.{ℕ}
use lib.Dec.{eqb}
use lib.ListN.{length, get_or}
use Rattle.lemmas.specs.Lists.{count, upto}
use Rattle.sheet.proofs.count_filled.Given as goal

-- the box was open and is not now
abbrev pub is_filled : List ℕ → List ℕ → ℕ → Bool
is_filled sheet filled b = eqb (get_or sheet b 0) 2 && not (eqb (get_or filled b 0) 2)

abbrev pub invariant-loop-old : goal.invariant-loop-old
invariant-loop-old l = l.n ≡ count (is_filled l.sheet l.filled) (upto (length l.yielded))
