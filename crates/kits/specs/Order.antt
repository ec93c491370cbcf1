-- The order of lists by places, and the answer to a question about lists.
-- Assumes nothing.
use Rattle.std.specs.Prelude.{◌≡◌, Bool, true, false, List, ℕ, ◌<◌, get_or}
use Rattle.spec.specs.Kits.{before}

-- box b is the lowest at which the two differ, and l has less there
pub record LessAt (l k : List ℕ) (b : ℕ) : Type 0 where
  pub same : (c : ℕ) → c < b → get_or l c 2 ≡ get_or k c 2
  pub less : get_or l b 2 < get_or k b 2

-- a question asks for lists with some property
abbrev pub Question : Type 1
Question = List ℕ → Type 0

-- l has the property, and no list with it stands before l
pub record Least (P : Question) (l : List ℕ) : Type 0 where
  pub has : P l
  pub first : (k : List ℕ) → P k → before k l ≡ false

-- found: l is the first list with the property; else no list has it
abbrev pub AnswerTo : Question → Bool → List ℕ → Type 0
AnswerTo P true l = Least P l
AnswerTo P false l = (k : List ℕ) → P k → ⊥
