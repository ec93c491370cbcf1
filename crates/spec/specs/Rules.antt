-- The twenty rules: source document 000, Table 1, in its order.
-- Assumes nothing.
use Rattle.std.specs.Prelude.{Bool, true, false, List, [], ◌∷◌}
use Rattle.spec.specs.Kinds.{Kind, EQU, NOT, AND, OR, other, Place, X, Y, Z}

-- what a rule says of one place: its box is in (true), or out
pub record Literal : Type 0 where
  pub place : Place
  pub state : Bool

abbrev pub x_in : Literal
x_in = record { place = X; state = true }

abbrev pub x_out : Literal
x_out = record { place = X; state = false }

abbrev pub y_in : Literal
y_in = record { place = Y; state = true }

abbrev pub y_out : Literal
y_out = record { place = Y; state = false }

abbrev pub z_in : Literal
z_in = record { place = Z; state = true }

abbrev pub z_out : Literal
z_out = record { place = Z; state = false }

-- where all of `premises` are facts, all of `conclusions` are
pub record Rule : Type 0 where
  pub premises : List Literal
  pub conclusions : List Literal

infix 20 ◌gives◌
abbrev pub ◌gives◌ : List Literal → List Literal → Rule
a gives b = record { premises = a; conclusions = b }

abbrev pub only : Literal → List Literal
only a = a ∷ []

abbrev pub both : Literal → Literal → List Literal
both a b = a ∷ b ∷ []

-- EQU 1 to 4, NOT 1 to 4, AND 1 to 6, OR 1 to 6
unfoldable pub rules_of : Kind → List Rule
rules_of EQU =
    (only x_in gives only y_in)
    ∷ (only y_in gives only x_in)
    ∷ (only x_out gives only y_out)
    ∷ (only y_out gives only x_out)
    ∷ []
rules_of NOT =
    (only x_in gives only y_out)
    ∷ (only x_out gives only y_in)
    ∷ (only y_in gives only x_out)
    ∷ (only y_out gives only x_in)
    ∷ []
rules_of AND =
    (both x_in y_in gives only z_in)
    ∷ (both x_in z_out gives only y_out)
    ∷ (both y_in z_out gives only x_out)
    ∷ (only x_out gives only z_out)
    ∷ (only y_out gives only z_out)
    ∷ (only z_in gives both x_in y_in)
    ∷ []
rules_of OR =
    (only x_in gives only z_in)
    ∷ (both x_out y_out gives only z_out)
    ∷ (both x_out z_in gives only y_in)
    ∷ (both y_out z_in gives only x_in)
    ∷ (only y_in gives only z_in)
    ∷ (only z_out gives both x_out y_out)
    ∷ []
rules_of other = []
