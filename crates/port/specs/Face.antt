-- What Show answers to C: a part of a table as three numbers.
-- Assumes nothing.
use Rattle.std.specs.Prelude.{cond, List, [], ◌∷◌, ℕ}
use Rattle.spec.specs.Fits.{Part}

-- which table, 0 the maker's and 1 the depot's; where the part starts; how many bytes it has
abbrev pub three_of_part : Part → List ℕ
three_of_part p = cond p.depots 1 0 ∷ p.start ∷ p.size ∷ []
