-- Tables and a sheet that pass their checks: First passes its form with every out buffer of the sheet's length, and Next besides
-- with every full list given.
-- Assumes nothing.
use mathlib.Core.Path.{◌≡◌, ◌∙◌}
use mathlib.Core.Bool.{false}
use mathlib.Core.List.{List, [], ◌∷◌}
use Prim.Native.Nat.{ℕ, ◌<◌}
use native.Mathlib.Omega.{arith}
use borrow.Author.Tests.{eq-eqb, le-ltb}
use lib.Dec.{ltb}
use lib.ListN.{length, get_or}
use Rattle.lemmas.specs.Lowest.{lowest}
use Rattle.lemmas.proofs.Lowest.{lowest_none}
use Rattle.lemmas.proofs.Reading.{get_d_default}
use Rattle.spec.specs.Refusals.{passed, judge, given_check, out_check, list_check, order_checks, next_checks, sheet_checks}
use Rattle.spec.proofs.Judge.{judge_append, judge_passed}
use Rattle.kits.specs.Kit.{IsFull}

pub list_passes : (n : ℕ) (l : List ℕ) → IsFull n l → (list_check l).when ≡ false
unfolding list_check
list_passes n l full =
    le-ltb (lowest (λ b. ltb 1 (get_or l b 0)) (length l)) (length l)
    (omega (arith, lowest_none (λ b. ltb 1 (get_or l b 0)) (length l) small))
  where
    small : (b : ℕ) → b < length l → ltb 1 (get_or l b 0) ≡ false
    small b i = le-ltb 1 (get_or l b 0) (omega (arith, get_d_default l b 0 2 i, full.bits b (omega (arith, full.boxes))))

module _ (maker depot sheet : List ℕ) (passes : judge (sheet_checks maker depot sheet) passed ≡ passed)
    (out : List ℕ) (same : length out ≡ length sheet) where
  pub first_passes : judge (order_checks maker depot sheet out) passed ≡ passed
  unfolding out_check
  first_passes =
      judge_append (sheet_checks maker depot sheet) (out_check (length sheet) out ∷ []) passed
      ∙ judge_passed (sheet_checks maker depot sheet) _ passes
      ∙ rw (eq-eqb _ _ same)

  pub next_passes : (given : List ℕ) → IsFull (length sheet) given → judge (next_checks maker depot sheet given out) passed ≡ passed
  unfolding out_check given_check
  next_passes given full =
      judge_append (sheet_checks maker depot sheet) (given_check (length sheet) given ∷ out_check (length sheet) out ∷ list_check given ∷ []) passed
      ∙ judge_passed (sheet_checks maker depot sheet) _ passes
      ∙ rw (eq-eqb _ _ full.boxes, eq-eqb _ _ same, list_passes (length sheet) given full)
