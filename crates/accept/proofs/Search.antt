-- What std's `position` finds, as the lowest number.
-- Assumes nothing.
use Rattle.std.proofs.Common.{◌≡◌, refl, ℕ, Bool, List, [], ◌∷◌, length, get_or, arith}
use Rattle.std.proofs.lemmas.Grind.{common_steps}
use Rattle.std.specs.List.{position_or_len}
use Rattle.lemmas.specs.Lowest.{lowest}

pub position_lowest : (test : ℕ → Bool) (s : List ℕ) → position_or_len test s ≡ lowest (λ b. test (get_or s b 0)) (length s)
unfolding lowest
position_lowest test [] = refl
position_lowest test (x ∷ s) = rw (← position_lowest test s) (grind (arith, common_steps))
