-- What the search is asked and answers, and what it looks at: the lowest open box, and how the first boxes stand to the given list.
-- Assumes nothing.
use Rattle.std.specs.Prelude.{◌≡◌, true, false, List, [], ℕ, ◌≤◌, ◌<◌, get_or, take, Option, Some, None, is_some}
use Rattle.std.specs.declared.cmp.Ordering.{Ordering}
use Rattle.std.specs.declared.cmp.Ordering.TheVariants.{Greater}
use Rattle.std.specs.Ordering.{MatchOrdering, match_ordering}
use denote.Ref.{Bor}
use Rattle.spec.specs.Records.{Rec}
use Rattle.kits.specs.Order.{LessAt, Question, AnswerTo}
use Rattle.kits.specs.Kit.{Wanted}
use Rattle.sheet.specs.declared.Sheet.{Sheet}

-- the list to pass, where one is given
abbrev pub Given : Type 0
Given = Option (Bor (List ℕ))

-- its states
abbrev pub given_of : Given → List ℕ
given_of None = []
given_of (Some list) = list.now

-- a kit of the sheet, and where a list is given, one strictly after it
abbrev pub Asks : List Rec → ℕ → List ℕ → Given → Question
Asks qs n s given = Wanted qs n s (is_some given) (given_of given)

-- the first n states of the sheet are the first list with the property; where there is no sheet, no list has it
abbrev pub Finds : Question → ℕ → Option Sheet → Type 0
Finds P n (Some s) = AnswerTo P true (take n s.states)
Finds P n None = AnswerTo P false []

-- no box below b is open, and box b is, unless it is n
pub record LowestOpen (t : List ℕ) (n b : ℕ) : Type 0 where
  pub within : b ≤ n
  pub settled : (c : ℕ) → c < b → get_or t c 2 ≡ 2 → ⊥
  pub opened : b < n → get_or t b 2 ≡ 2

-- one list has less at one of the first b boxes, and the same below it
abbrev pub LessBelow : List ℕ → List ℕ → ℕ → Type 0
LessBelow l k b = (c : ℕ) × (c < b) × LessAt l k c

-- the two have the same states at the first b boxes
abbrev pub SameBelow : ℕ → List ℕ → List ℕ → Type 0
SameBelow b l k = (c : ℕ) → c < b → get_or l c 2 ≡ get_or k c 2

-- the first b boxes of t stand before the given list, are the same, or stand past it; where none is to be passed, they are past
abbrev pub Stands : List ℕ → Given → ℕ → Ordering → Type 0
Stands t None b w = w ≡ Greater
Stands t (Some list) b w = MatchOrdering w (LessBelow t list.now b) (SameBelow b t list.now) (LessBelow list.now t b)

-- the list that what follows has still to pass
abbrev pub bound_of : Ordering → Given → Given
bound_of w given = match_ordering w None given None
