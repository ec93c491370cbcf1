-- `not a || b` as "a implies b"; and a test that can't be true.
-- Assumes nothing.
use mathlib.Core.Path.{◌≡◌, refl}
use mathlib.Core.Bool.{Bool, true, false, not, ◌||◌}
use lib.Dec.{T}

pub implies_at : (a b : Bool) → T (not a || b) → T a → T b
implies_at true b t u = t
implies_at false b t u = absurd u

pub implies_of : (a b : Bool) → (T a → T b) → T (not a || b)
implies_of true b h = h tt
implies_of false b h = tt

pub never_true : (t : Bool) → (t ≡ true → ⊥) → t ≡ false
never_true true h = absurd (h refl)
never_true false h = refl
