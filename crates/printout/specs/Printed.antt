-- What the printout shows: the entries of the one-rule table in order, one decimal number a line, each line ended by one line
-- feed, and nothing else.
-- Assumes nothing.
use Rattle.std.specs.Prelude.{List, [], ◌∷◌, ◌++◌, ℕ, zero, suc}
use Rattle.text.specs.Spelling.{decimal}
use Rattle.spec.specs.OneRule.{outcome}

unfoldable pub line_of : ℕ → List ℕ
line_of n = decimal n ++ 10 ∷ []

-- the lines of the entries below k
unfoldable pub printed : ℕ → List ℕ
printed zero = []
printed (suc k) = printed k ++ line_of (outcome k)
