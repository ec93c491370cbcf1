-- A list in the order of a test.
-- Assumes nothing.
use Rattle.std.specs.Prelude.{◌≡◌, Bool, true}
use mathlib.Core.List.{List, [], ◌∷◌, Memᴰ}

-- each element stands before every later one
abbrev pub Ascends : {A : Type 0} → (A → A → Bool) → List A → Type 0
Ascends before [] = Unit {0}
Ascends before (a ∷ l) = ((c : _) → Memᴰ c l → before a c ≡ true) × Ascends before l
