-- Fill's answer: what it says; and Fill's promise.
-- Assumes nothing.
use Rattle.std.specs.Prelude.{◌≡◌, List, ℕ, Result}
use Rattle.spec.specs.Records.{rules_in}
use Rattle.spec.specs.Facts as facts
use Rattle.spec.specs.Refusals.{Said, written, Does}
use Rattle.spec.specs.Fill.{closure_of, fill_judges, fill_says, fill_writes}
use Rattle.refusals.specs.declared.Refusal.{Refusal}
use Rattle.refusals.specs.Telling.{said}

-- a count of boxes
abbrev pub filled_says : Result ℕ Refusal → Said ℕ
filled_says answer = said (λ count. count) answer

-- the promise: the answer, and every byte of the out buffer
abbrev pub FillDoes : (maker depot sheet out : List ℕ) → Result ℕ Refusal → List ℕ → Type 0
FillDoes maker depot sheet out answer left =
    Does (fill_says maker depot sheet out) (fill_writes maker depot sheet out) (filled_says answer) left

-- the same of a call whose form has passed
abbrev pub FillDoesInForm : (maker depot sheet out : List ℕ) → Result ℕ Refusal → List ℕ → Type 0
FillDoesInForm maker depot sheet out answer left =
    Does (fill_judges maker depot sheet) (written (fill_judges maker depot sheet) (closure_of maker depot sheet) out) (filled_says answer) left

-- the closure of the sheet, without a clash
pub record FillsTo (maker depot sheet filled : List ℕ) : Type 0 where
  pub closure : filled ≡ closure_of maker depot sheet
  pub unclashed : (b : ℕ) → facts.Clash (rules_in maker depot) sheet b → ⊥
