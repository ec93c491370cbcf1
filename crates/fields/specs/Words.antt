-- A word among others.
-- Assumes nothing.
use Rattle.std.specs.Prelude.{cond, List, [], ◌∷◌, ℕ, suc, Option, eqb, length}
use Rattle.lemmas.specs.Lowest.{if_below}
use Rattle.lemmas.specs.Same.{same_list}

-- the number of the first that is this word, and how many they are where none is
abbrev pub place_among : List ℕ → List (List ℕ) → ℕ
place_among w [] = 0
place_among w (p ∷ ps) = cond (same_list eqb w p) 0 (suc (place_among w ps))

-- the same, and no number where none is
abbrev pub found_among : List ℕ → List (List ℕ) → Option ℕ
found_among w ps = if_below (place_among w ps) (length ps)
