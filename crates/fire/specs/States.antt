-- Three states as the code holds them, and what it is to have fired every rule of one record on them.
-- Assumes nothing.
use Rattle.std.specs.Prelude.{◌≡◌, cond, List, [], ◌∷◌, ℕ, ◌≤◌}
use Rattle.spec.specs.Rounds.{closed}
use Rattle.spec.specs.Kinds.{Kind, EQU, NOT, AND, OR, other, kind_of}
use Rattle.spec.specs.Records.{lacks_z}
use Rattle.spec.specs.OneRule.{alone}
use Rattle.fire.specs.declared.States.{States}

abbrev pub three : (x y z : ℕ) → List ℕ
three x y z = x ∷ y ∷ z ∷ []

abbrev pub list_of : States → List ℕ
list_of r = three r.x r.y r.z

-- states as a sheet has them: out, in or open
pub record OnSheet (x y z : ℕ) : Type 0 where
  pub x_state : x ≤ 2
  pub y_state : y ≤ 2
  pub z_state : z ≤ 2

-- the closure of the three states under a record of this kind alone, on three different boxes
abbrev pub closed_alone : (kind x y z : ℕ) → List ℕ
closed_alone kind x y z = closed (alone kind ∷ []) (three x y z)

-- r is that closure; its states are out, in, open or both
pub record Fired (kind x y z : ℕ) (r : States) : Type 0 where
  pub closure : list_of r ≡ closed_alone kind x y z
  pub x_code : r.x ≤ 3
  pub y_code : r.y ≤ 3
  pub z_code : r.z ≤ 3

-- the state of z that counts: where the kind has no z it is open
abbrev pub counted : (kind z : ℕ) → ℕ
counted kind z = cond (lacks_z (kind_of kind)) 2 z

-- nothing follows from the three states under a record of this kind alone
abbrev pub Rests : (kind x y z : ℕ) → Type 0
Rests kind x y z = closed_alone kind x y (counted kind z) ≡ three x y (counted kind z)

-- by the kind: bit 16x + 4y + z is 1 where something follows
abbrev pub stirs_of : Kind → ℕ
stirs_of EQU = 511219009392
stirs_of NOT = 511225890567
stirs_of AND = 2431007458918
stirs_of OR = 1456083370838
stirs_of other = 0

abbrev pub stirs_at : ℕ → ℕ
stirs_at kind = stirs_of (kind_of kind)
