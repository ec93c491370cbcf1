-- Three states as the states at the places of a rule.
-- Assumes nothing.
use Rattle.std.specs.Prelude.{Bool}
use Rattle.spec.specs.Kinds.{Place, X, Y, Z}

abbrev pub at_places : Bool → Bool → Bool → Place → Bool
at_places x y z X = x
at_places x y z Y = y
at_places x y z Z = z
