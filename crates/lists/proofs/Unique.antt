-- Two results that First's or Next's promise allows are equal: the answer, and what is left in the out buffer; and the numbers lose
-- nothing of an answer.
-- Assumes nothing.
use mathlib.Core.Path.{◌≡◌, refl}
use mathlib.Core.List.{List}
use Prim.Native.Nat.{ℕ}
use native.Mathlib.Omega.{arith}
use Rattle.std.specs.Prelude.{Result}
use Rattle.spec.specs.Refusals.{Said}
use Rattle.refusals.specs.declared.Refusal.{Refusal}
use Rattle.refusals.specs.Telling.{numbers_of}
use Rattle.refusals.proofs.Back.{result_unique}
use Rattle.refusals.proofs.Told.{OwnCodes, told_unique}
use Rattle.lists.specs.Answer.{handed_numbers, FirstDoes, NextDoes}

pub first_unique : (maker depot sheet out : List ℕ) (r s : Result (Unit {0}) Refusal) (left last : List ℕ) →
    FirstDoes maker depot sheet out r left → FirstDoes maker depot sheet out s last → (r ≡ s) × (left ≡ last)
first_unique maker depot sheet out r s left last = result_unique (λ (u : Unit {0}). u) (λ (u : Unit {0}). u) (λ u. refl) r s

pub next_unique : (maker depot sheet given out : List ℕ) (r s : Result (Unit {0}) Refusal) (left last : List ℕ) →
    NextDoes maker depot sheet given out r left → NextDoes maker depot sheet given out s last → (r ≡ s) × (left ≡ last)
next_unique maker depot sheet given out r s left last = result_unique (λ (u : Unit {0}). u) (λ (u : Unit {0}). u) (λ u. refl) r s

pub handed_codes : OwnCodes handed_numbers
handed_codes _ e = omega arith

pub listed_told : (s t : Said (Unit {0})) → numbers_of handed_numbers s ≡ numbers_of handed_numbers t → s ≡ t
listed_told = told_unique handed_numbers handed_codes (λ a b e. refl)
