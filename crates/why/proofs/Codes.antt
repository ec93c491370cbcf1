-- A code tells its two facts, where it is not both: so the check of a line sees whether a record gives a box the line's state.
-- Assumes nothing.
use mathlib.Core.Path.{◌≡◌}
use mathlib.Core.Bool.{Bool, true, false}
use mathlib.Core.List.{List}
use Prim.Native.Nat.{ℕ, zero, suc, ◌≤◌}
use native.Mathlib.Omega.{arith}
use lib.Dec.{eqb}
use Rattle.std.proofs.lemmas.Bool.Decides.{nat_tests}
use Rattle.spec.specs.Records.{Rec}
use Rattle.spec.specs.Rounds.{code}
use Rattle.engine.proofs.Settled.{cells_read}
use Rattle.whylists.specs.Lines.{given_by}

told : (out in' : Bool) (g : ℕ) → g ≡ code out in' → g ≤ 2 → (eqb g 0 ≡ out) × (eqb g 1 ≡ in')
unfolding code
told true true g e low = absurd (omega (arith, e, low))
told true false g e low = (rw e, rw e)
told false true g e low = (rw e, rw e)
told false false g e low = (rw e, rw e)

pub given_says : (s : List ℕ) (b : ℕ) (q : Rec) (g state : ℕ) → g ≡ code (given_by s b false q) (given_by s b true q) → g ≤ 2 → state ≤ 1 →
    eqb g state ≡ given_by s b (eqb state 1) q
given_says s b q g zero e low small = (told _ _ g e low).0
given_says s b q g (suc zero) e low small = (told _ _ g e low).1
given_says s b q g (suc (suc v)) e low small = absurd (omega arith)

-- what the tests of a line tell
pub ruleset line_tests = (given_says, cells_read, nat_tests)
