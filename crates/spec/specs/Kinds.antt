-- The kinds of rule: their numbers, what each means, and which boxes it names.
-- Assumes nothing.
use Rattle.std.specs.Prelude.{Bool, true, not, ◌&&◌, ◌||◌, List, [], ◌∷◌, ℕ, get_or}
use Rattle.std.specs.Bool.{beq}

-- `other` is a number that is no kind
pub data Kind : Type 0 where
  EQU NOT AND OR other : Kind

-- the kinds by their numbers: 1 EQU, 2 NOT, 3 AND, 4 OR
abbrev pub kinds : List Kind
kinds = other ∷ EQU ∷ NOT ∷ AND ∷ OR ∷ []

unfoldable pub kind_of : ℕ → Kind
kind_of number = get_or kinds number other

-- the three places of a record for a box
pub data Place : Type 0 where
  X Y Z : Place

-- the places at which a record of this kind names a box: kinds 1 and 2 have no z
unfoldable pub places_of : Kind → List Place
places_of EQU = X ∷ Y ∷ []
places_of NOT = X ∷ Y ∷ []
places_of AND = X ∷ Y ∷ Z ∷ []
places_of OR = X ∷ Y ∷ Z ∷ []
places_of other = []

-- the truth table of a kind, at the states of the three places (in: true)
unfoldable pub meaning : Kind → (Place → Bool) → Bool
meaning EQU v = beq (v X) (v Y)
meaning NOT v = beq (not (v X)) (v Y)
meaning AND v = beq (v X && v Y) (v Z)
meaning OR v = beq (v X || v Y) (v Z)
meaning other v = true
