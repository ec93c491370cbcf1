-- No record passed is broken.
-- Assumes nothing.
use mathlib.Core.Path.{◌≡◌}
use mathlib.Core.Bool.{false}
use Prim.Native.Nat.{ℕ, ◌<◌}
use Rattle.spec.specs.Records.{record_at}
use Rattle.spec.specs.Fits.{is_broken}
use Rattle.broken.proofs.first_broken.Given as goal

abbrev pub invariant-loop-i : goal.invariant-loop-i
invariant-loop-i l = (j : ℕ) → j < l.i → is_broken l.list (record_at l.maker l.depot j) ≡ false
