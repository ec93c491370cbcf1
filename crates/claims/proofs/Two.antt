-- Demand 2: Fill agrees with the rules, Test with the truth tables, and the lists handed out are those that test as fitting.
-- Assumes nothing.
use mathlib.Core.Path.{◌≡◌, ◌∙◌}
use mathlib.Core.List.{List, [], ◌∷◌, Memᴰ}
use Prim.Native.Nat.{ℕ}
use lib.ListN.{length}
use Rattle.spec.specs.Refusals.{answered, passed, judge, table_checks, sheet_check, sheet_checks, order_checks, list_check}
use Rattle.spec.specs.Fits.{fits, test_checks, test_says}
use Rattle.spec.specs.Kits.{kits}
use Rattle.spec.proofs.Judge.{judge_left, judge_then}
use Rattle.kits.specs.Kit.{IsFull}
use Rattle.kits.proofs.Form.{list_passes}
use Rattle.kits.proofs.Kits.{kits_in_order}
use Rattle.claims.specs.Demands.{KeepsSettled, DemandTwo}
use Rattle.claims.proofs.Refusing.{form_passes}
use Rattle.claims.proofs.Testing.{test_agrees}
use Rattle.claims.proofs.Filling.{fill_agrees}

module _ (maker depot sheet l : List ℕ) (passes : judge (sheet_checks maker depot sheet) passed ≡ passed) where
  -- a full list of the sheet's length is in form for Test
  test_passes : IsFull (length sheet) l → judge (test_checks maker depot l) passed ≡ passed
  test_passes full =
      judge_then (table_checks (length l) maker depot) (list_check l ∷ []) passed tables
      ∙ rw (list_passes (length sheet) l full)
    where
      tables : judge (table_checks (length l) maker depot) passed ≡ passed
      tables = rw full.boxes (judge_left (table_checks (length sheet) maker depot) (sheet_check sheet ∷ []) passes)

  handed_out : Memᴰ l (kits maker depot sheet) → IsFull (length sheet) l × KeepsSettled sheet l × (test_says maker depot l ≡ answered fits)
  handed_out m =
      let kit = ((kits_in_order maker depot sheet).exactly l).0 m in
      (kit.full, kit.keeps, (test_agrees maker depot l (test_passes kit.full)).fits_true.1 kit.fits)

  fitting : IsFull (length sheet) l × KeepsSettled sheet l × (test_says maker depot l ≡ answered fits) → Memᴰ l (kits maker depot sheet)
  fitting (full, keeps, said) =
      ((kits_in_order maker depot sheet).exactly l).1
      (record { full = full; keeps = keeps; fits = (test_agrees maker depot l (test_passes full)).fits_true.0 said })

pub demand_two : (maker depot sheet l out : List ℕ) → DemandTwo maker depot sheet l out
demand_two maker depot sheet l out =
    record {
      fill = λ form. fill_agrees maker depot sheet out (form_passes (order_checks maker depot sheet out) form);
      test = λ form. test_agrees maker depot l (form_passes (test_checks maker depot l) form);
      handed = λ form.
          let passes = form_passes (sheet_checks maker depot sheet) form in
          (handed_out maker depot sheet l passes, fitting maker depot sheet l passes);
    }
