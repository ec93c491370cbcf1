-- The part that Show gives, from Test's answer.
-- Assumes nothing.
use mathlib.Core.Path.{◌≡◌, ap}
use mathlib.Core.List.{List}
use Prim.Native.Nat.{ℕ, ◌*◌, ◌<◌}
use native.Mathlib.Omega.{arith}
use Rattle.spec.specs.Refusals.{Said, answered}
use Rattle.spec.specs.Fits.{Verdict, broken, test_says, part_for, shows_part}
use Rattle.spec.proofs.Broken.{broken_is}

module _ (maker depot l : List ℕ) where
  pub shows_told : {said : Said Verdict} → said ≡ test_says maker depot l → part_for maker said ≡ shows_part maker depot l
  unfolding shows_part
  shows_told e = ap (part_for maker) e

  -- a record's number is below 1,024
  pub place_fits : {number : ℕ} → answered (broken number) ≡ test_says maker depot l → 8 * number < 18446744073709551616
  place_fits {number} e = let is = broken_is maker depot l number e in omega (arith, is.below, is.accepted.count)
