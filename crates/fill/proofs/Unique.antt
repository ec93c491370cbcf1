-- Two results that Fill's promise allows are equal: the answer, and what is left in the out buffer; and the numbers lose nothing of
-- an answer.
-- Assumes nothing.
use mathlib.Core.Path.{◌≡◌, refl}
use mathlib.Core.List.{List}
use Prim.Native.Nat.{ℕ}
use native.Mathlib.Omega.{arith}
use Rattle.std.specs.Prelude.{Result}
use Rattle.spec.specs.Refusals.{Said}
use Rattle.refusals.specs.declared.Refusal.{Refusal}
use Rattle.refusals.specs.Telling.{done_with, numbers_of}
use Rattle.refusals.proofs.Back.{result_unique}
use Rattle.refusals.proofs.Told.{OwnCodes, told_unique}
use Rattle.fill.specs.Answer.{FillDoes}

pub filled_unique : (maker depot sheet out : List ℕ) (r s : Result ℕ Refusal) (left last : List ℕ) →
    FillDoes maker depot sheet out r left → FillDoes maker depot sheet out s last → (r ≡ s) × (left ≡ last)
filled_unique maker depot sheet out r s left last =
    result_unique (λ (k : ℕ). k) (λ (k : ℕ). k) (λ k. refl) r s

pub count_codes : OwnCodes done_with
count_codes k e = omega arith

pub filled_told : (s t : Said ℕ) → numbers_of done_with s ≡ numbers_of done_with t → s ≡ t
filled_told = told_unique done_with count_codes (λ a b e. cc)
