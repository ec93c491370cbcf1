-- A list of characters cut at each mark: a line at its spaces, an input at its line feeds. It computes.
-- Assumes nothing.
use Rattle.std.specs.Prelude.{Bool, true, false, cond, List, [], ◌∷◌, ℕ, suc, eqb, take, drop}

-- a character in front of these pieces: a mark begins a piece of its own, any other belongs to the first
abbrev pub in_front : (is_mark : Bool) → ℕ → List (List ℕ) → List (List ℕ)
in_front true c ps = [] ∷ ps
in_front false c [] = (c ∷ []) ∷ []
in_front false c (p ∷ ps) = (c ∷ p) ∷ ps

-- the pieces between the marks, before the first and after the last: one more than marks
abbrev pub cut_at : (mark : ℕ) → List ℕ → List (List ℕ)
cut_at mark [] = [] ∷ []
cut_at mark (c ∷ l) = in_front (eqb c mark) c (cut_at mark l)

-- a line has at most so many characters
abbrev pub longest : ℕ
longest = 200000

-- how many characters stand before the first mark
abbrev pub until : (mark : ℕ) → List ℕ → ℕ
until mark [] = 0
until mark (c ∷ l) = cond (eqb c mark) 0 (suc (until mark l))

-- the piece that starts at a place
abbrev pub piece_from : (mark : ℕ) → List ℕ → ℕ → List ℕ
piece_from mark l from = take (until mark (drop from l)) (drop from l)
