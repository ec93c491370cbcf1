-- First and Next answer 9 where Fill would answer 7: a sheet that clashes has no kit.
-- Assumes nothing.
use mathlib.Core.Path.{◌≡◌}
use mathlib.Core.Bool.{Bool, true, false}
use mathlib.Core.List.{List, [], ◌∷◌}
use Prim.Native.Nat.{ℕ}
use lib.ListN.{length}
use Rattle.spec.specs.Records.{rules_in}
use Rattle.spec.specs.Refusals.{reason, refused, passed, judge, sheet_checks, given_check, out_check, list_check, order_checks, next_checks}
use Rattle.spec.specs.Fill.{fill_says}
use Rattle.spec.specs.Kits.{first_says, next_says}
use Rattle.spec.proofs.Judge.{judge_left}
use Rattle.spec.proofs.Accepted.{next_accepted}
use Rattle.kits.specs.Order.{AnswerTo}
use Rattle.kits.specs.Kit.{Wanted}
use Rattle.kits.proofs.Forced.{clash_answer}
use Rattle.kits.proofs.Form.{first_passes}
use Rattle.kits.proofs.Says.{first_none, next_none}
use Rattle.kits.proofs.Sheets.{kit_answer, sheet_past}
use Rattle.claims.proofs.Filling.{fill_agrees}

module _ (maker depot sheet out : List ℕ) where
  -- nothing is wanted of a sheet that clashes
  clash_none : judge (order_checks maker depot sheet out) passed ≡ passed → fill_says maker depot sheet out ≡ refused (reason 7 0) →
      (after : Bool) (given : List ℕ) → AnswerTo (Wanted (rules_in maker depot) (length sheet) sheet after given) false []
  clash_none passes seven after given =
      let clash = (fill_agrees maker depot sheet out passes).clash.0 seven in
      clash_answer (rules_in maker depot) (length sheet) sheet (sheet_past sheet) clash.0 clash.1 after given []

  pub clash_first : judge (order_checks maker depot sheet out) passed ≡ passed → fill_says maker depot sheet out ≡ refused (reason 7 0) →
      first_says maker depot sheet out ≡ refused (reason 9 0)
  clash_first passes seven =
      (first_none maker depot sheet out passes []
      (kit_answer (rules_in maker depot) (length sheet) sheet [] false [] (clash_none passes seven false []))).0

  pub clash_next : (given : List ℕ) → judge (next_checks maker depot sheet given out) passed ≡ passed →
      fill_says maker depot sheet out ≡ refused (reason 7 0) → next_says maker depot sheet given out ≡ refused (reason 9 0)
  clash_next given passes seven =
      let sheet_passes = judge_left (sheet_checks maker depot sheet)
      (given_check (length sheet) given ∷ out_check (length sheet) out ∷ list_check given ∷ []) passes in
      let room = (next_accepted maker depot sheet given out passes).out_length in
      (next_none maker depot sheet given out passes [] (clash_none (first_passes maker depot sheet sheet_passes out room) seven true given)).0
