-- Steps of a fill: what one record does to a list of states, and what any number of steps comes to. The list may be longer than
-- the sheet: a box past the sheet's end is open.
-- Assumes nothing.
use Rattle.std.specs.Prelude.{◌≡◌, Bool, cond, List, [], ◌∷◌, ℕ, ◌≤◌, length, get_or, set}
use Rattle.spec.specs.Kinds.{kind_of}
use Rattle.spec.specs.Records.{Rec, lacks_z}
use Rattle.spec.specs.Facts.{FactsOf, Closed, Closure}
use Rattle.spec.specs.Rounds.{closed}
use Rattle.spec.specs.OneRule.{alone}
use Rattle.spec.proofs.Least.{Inside}

-- state 3 never appears on a sheet
abbrev pub IsSheet : List ℕ → Type 0
IsSheet s = (b : ℕ) → get_or s b 2 ≤ 2

-- the record's rules are at rest: what they conclude is there already
abbrev pub Stable : Rec → List ℕ → Type 0
Stable q s = Closed (q ∷ []) (FactsOf s)

-- t is s with some of the derived facts added, and no box has both
pub record Grown (qs : List Rec) (s t : List ℕ) : Type 0 where
  pub size : length t ≡ length s
  pub keeps : Inside (FactsOf s) (FactsOf t)
  pub derived : Inside (FactsOf t) (Closure qs s)
  pub sheet : IsSheet t

-- 256 states that start as the sheet
pub record Loaded (sheet cells : List ℕ) : Type 0 where
  pub size : length cells ≡ 256
  pub same : (b : ℕ) → get_or cells b 2 ≡ get_or sheet b 2

-- the record has no z
abbrev pub z_missing : Rec → Bool
z_missing q = lacks_z (kind_of q.kind)

-- the state of z, which is open where it is missing
unfoldable pub state_z : Rec → List ℕ → ℕ
state_z q s = cond (z_missing q) 2 (get_or s q.z 2)

-- the states that are read for a record
abbrev pub states_at : Rec → List ℕ → List ℕ
states_at q s = get_or s q.x 2 ∷ get_or s q.y 2 ∷ state_z q s ∷ []

-- the new states: the closure of those that are read under this record's rules alone
abbrev pub NewStates : Rec → List ℕ → (x' y' z' : ℕ) → Type 0
NewStates q s x' y' z' = (x' ∷ y' ∷ z' ∷ []) ≡ closed (alone q.kind ∷ []) (states_at q s)

-- the list with these states stored at the record's boxes
unfoldable pub with_states : Rec → (x' y' z' : ℕ) → List ℕ → List ℕ
with_states q x' y' z' s =
    cond (z_missing q)
    (set (set s q.x x') q.y y')
    (set (set (set s q.x x') q.y y') q.z z')
