-- A filled sheet in place of the sheet: nothing from n on is settled on it, and its answers are the sheet's.
-- Assumes nothing.
use mathlib.Core.Bool.{Bool}
use mathlib.Core.List.{List}
use Prim.Native.Nat.{ℕ}
use Rattle.spec.specs.Records.{Rec}
use Rattle.spec.proofs.Named.{Good, within_good}
use Rattle.theory.specs.Steps.{Grown}
use Rattle.kits.specs.Order.{AnswerTo}
use Rattle.kits.specs.Kit.{OpenFrom, Wanted}
use Rattle.kits.proofs.Forced.{filled_answer, filled_past}
use Rattle.engine.specs.Moves.{Cells}

module _ {qs : List Rec} (n : ℕ) {s t : List ℕ} (past : OpenFrom n s) (cells : Cells s) (grown : Grown qs s t) where
  pub grown_past : Good n qs → OpenFrom n t
  grown_past good =
      filled_past qs n s t past cells.sheet grown.sheet grown.keeps grown.derived (within_good n qs good)

  pub grown_answer : (after : Bool) (given : List ℕ) (found : Bool) (l : List ℕ) →
      AnswerTo (Wanted qs n t after given) found l → AnswerTo (Wanted qs n s after given) found l
  grown_answer = filled_answer qs n s t past cells.sheet grown.sheet grown.keeps grown.derived
