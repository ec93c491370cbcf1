-- Rule records: eight bytes, how they are read, when one is bad; and the two tables, which act as one.
-- Assumes nothing.
use Rattle.std.specs.Prelude.{Bool, true, false, not, ◌&&◌, ◌||◌, List, [], ◌∷◌, ◌++◌, map, ℕ, ◌+◌, ◌*◌, ◌/◌, leb, eqb, length, get_or}
use Rattle.lemmas.specs.Lists.{any, those, upto}
use Rattle.spec.specs.Kinds.{Kind, EQU, NOT, AND, OR, other, Place, X, Y, Z, kind_of, places_of}

-- a record: byte 0 kind; byte 1; bytes 2-3, 4-5, 6-7 the boxes x, y, z
pub record Rec : Type 0 where
  pub kind : ℕ
  pub byte1 : ℕ
  pub x : ℕ
  pub y : ℕ
  pub z : ℕ

-- two bytes, little-endian
abbrev pub word : ℕ → ℕ → ℕ
word low high = low + 256 * high

-- the record in the eight bytes from `at` on
unfoldable pub rec_from : List ℕ → ℕ → Rec
rec_from t at =
    record {
      kind = get_or t at 0;
      byte1 = get_or t (at + 1) 0;
      x = word (get_or t (at + 2) 0) (get_or t (at + 3) 0);
      y = word (get_or t (at + 4) 0) (get_or t (at + 5) 0);
      z = word (get_or t (at + 6) 0) (get_or t (at + 7) 0);
    }

-- the two tables act as one, maker's records first; a record's number counts from 0 through both
unfoldable pub record_at : List ℕ → List ℕ → ℕ → Rec
record_at maker depot number = rec_from (maker ++ depot) (8 * number)

-- how many records both tables hold together
unfoldable pub record_count : List ℕ → List ℕ → ℕ
record_count maker depot = length maker / 8 + length depot / 8

-- a record that counts as a rule: every one does. What a rule means is said of these alone, what is good form of every record
unfoldable pub is_rule : Rec → Bool
is_rule q = true

-- the rules, in the order of their records
unfoldable pub rules_in : List ℕ → List ℕ → List Rec
rules_in maker depot = those is_rule (map (record_at maker depot) (upto (record_count maker depot)))

-- the box at a place
unfoldable pub box_at : Rec → Place → ℕ
box_at q X = q.x
box_at q Y = q.y
box_at q Z = q.z

-- the boxes that a record names
unfoldable pub boxes_of : Rec → List ℕ
boxes_of q = map (box_at q) (places_of (kind_of q.kind))

-- its kind isn't 1 to 4
unfoldable pub no_kind : Kind → Bool
no_kind EQU = false
no_kind NOT = false
no_kind AND = false
no_kind OR = false
no_kind other = true

-- kinds 1 and 2: z is missing
unfoldable pub lacks_z : Kind → Bool
lacks_z EQU = true
lacks_z NOT = true
lacks_z AND = false
lacks_z OR = false
lacks_z other = false

-- two of these boxes are equal
unfoldable pub two_equal : List ℕ → Bool
two_equal [] = false
two_equal (b ∷ bs) = any (eqb b) bs || two_equal bs

-- with n boxes: its kind isn't 1 to 4, byte 1 isn't 0, a box it names is not below n, kind 1 or 2 has z other than 65535,
-- or two boxes it names are equal
unfoldable pub bad : ℕ → Rec → Bool
bad n q =
    no_kind (kind_of q.kind)
    || not (eqb q.byte1 0)
    || any (leb n) (boxes_of q)
    || (lacks_z (kind_of q.kind) && not (eqb q.z 65535))
    || two_equal (boxes_of q)
