-- Every element of one list with every element of another. It computes.
-- Assumes nothing.
use Rattle.std.specs.Prelude.{List, [], ◌∷◌, ◌++◌, map}

abbrev pub pairs : {A B C : Type 0} → (A → B → C) → List A → List B → List C
pairs f [] k = []
pairs f (a ∷ l) k = map (f a) k ++ pairs f l k
