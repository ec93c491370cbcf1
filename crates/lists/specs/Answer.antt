-- First's and Next's answer: what it says; and their promises.
-- Assumes nothing.
use Rattle.std.specs.Prelude.{◌≡◌, true, false, List, ℕ, Result, Ok, Err}
use Rattle.spec.specs.Records.{rules_in}
use Rattle.spec.specs.Refusals.{Said, Does}
use Rattle.spec.specs.Kits.{first_says, first_writes, next_says, next_writes}
use Rattle.kits.specs.Order.{AnswerTo}
use Rattle.search.specs.Look.{Given, Asks}
use Rattle.refusals.specs.declared.Refusal.{Refusal}
use Rattle.refusals.specs.declared.Refusal.TheVariants.{NoList}
use Rattle.refusals.specs.Telling.{said, done_with}

-- that a list is handed out, and nothing besides
abbrev pub listed_says : Result (Unit {0}) Refusal → Said (Unit {0})
listed_says answer = said (λ handed. handed) answer

-- a list is handed out, and there is nothing to count
abbrev pub handed_numbers : Unit {0} → List ℕ
handed_numbers _ = done_with 0

-- First's promise: the answer, and every byte of the out buffer
abbrev pub FirstDoes : (maker depot sheet out : List ℕ) → Result (Unit {0}) Refusal → List ℕ → Type 0
FirstDoes maker depot sheet out answer left =
    Does (first_says maker depot sheet out) (first_writes maker depot sheet out) (listed_says answer) left

-- and Next's
abbrev pub NextDoes : (maker depot sheet given out : List ℕ) → Result (Unit {0}) Refusal → List ℕ → Type 0
NextDoes maker depot sheet given out answer left =
    Does (next_says maker depot sheet given out) (next_writes maker depot sheet given out) (listed_says answer) left

-- the kit that was asked for is in the buffer, or there is none and the buffer is as it was
abbrev pub Chosen : (n : ℕ) (maker depot sheet : List ℕ) → Given → (out : List ℕ) → Result (Unit {0}) Refusal → List ℕ → Type 0
Chosen n maker depot sheet given out (Ok _) left = AnswerTo (Asks (rules_in maker depot) n sheet given) true left
Chosen n maker depot sheet given out (Err why) left =
    (why ≡ NoList) × (left ≡ out) × AnswerTo (Asks (rules_in maker depot) n sheet given) false out
