-- The states that a list of lines leaves.
-- Assumes nothing.
use Rattle.std.specs.Prelude.{List, [], ◌∷◌, ℕ, set}
use Rattle.whylists.specs.Lines.{Line}

-- the sheet with each line's box in its state
abbrev pub states_after : List ℕ → List Line → List ℕ
states_after s [] = s
states_after s (a ∷ l) = states_after (set s a.box a.state) l
