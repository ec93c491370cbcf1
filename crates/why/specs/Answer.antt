-- The answers of the maker and the checker: what they say; and the maker's promise.
-- Assumes nothing.
use Rattle.std.specs.Prelude.{List, ℕ, Result}
use Rattle.spec.specs.Refusals.{Said, written, Does}
use Rattle.refusals.specs.declared.Refusal.{Refusal}
use Rattle.refusals.specs.Telling.{said}
use Rattle.whylists.specs.Ours.{ours, lines_bytes}
use Rattle.whylists.specs.Says.{why_judges, why_says, why_writes, at_head}

-- a number of lines
abbrev pub explained_says : Result ℕ Refusal → Said ℕ
explained_says answer = said (λ count. count) answer

abbrev pub vetted_says : Result (Unit {0}) Refusal → Said (Unit {0})
vetted_says answer = said (λ accepts. accepts) answer

-- the maker's promise: the answer, and every byte of the out buffer
abbrev pub WhyDoes : (maker depot sheet out : List ℕ) → Result ℕ Refusal → List ℕ → Type 0
WhyDoes maker depot sheet out answer left =
    Does (why_says maker depot sheet out) (why_writes maker depot sheet out) (explained_says answer) left

-- the same of a call whose form has passed
abbrev pub WhyDoesInForm : (maker depot sheet out : List ℕ) → Result ℕ Refusal → List ℕ → Type 0
WhyDoesInForm maker depot sheet out answer left =
    Does (why_judges maker depot sheet)
    (written (why_judges maker depot sheet) (at_head (lines_bytes (ours maker depot sheet)) out) out) (explained_says answer) left
