-- The bytes of the fields of a call, its parts, one after the other in one buffer. The ends say where they lie: end number k is
-- where part k starts, and end number k + 1 where it ends.
-- Assumes nothing.
use Rattle.std.specs.Prelude.{◌≡◌, Bool, true, List, ℕ, ◌+◌, ◌*◌, ◌-◌, ◌≤◌, ◌<◌, eqb, length, get_or, take, drop}
use Rattle.lemmas.specs.Lists.{all}
use Rattle.fields.specs.Fields.{fields_of, is_field, part}

-- part k, where it lies in the buffer
abbrev pub part_in : (bytes ends : List ℕ) → ℕ → List ℕ
part_in bytes ends k = take (get_or ends (k + 1) 0 - get_or ends k 0) (drop (get_or ends k 0) bytes)

-- eight parts at most, and those that a call has not are empty
pub record EndsInOrder (bytes ends : List ℕ) : Type 0 where
  pub order : (k : ℕ) → k < 8 → get_or ends k 0 ≤ get_or ends (k + 1) 0
  pub within : (k : ℕ) → k ≤ 8 → get_or ends k 0 ≤ length bytes

-- from this place on the line has eight fields at most, and all are right
pub record RightFields (line : List ℕ) (from : ℕ) : Type 0 where
  pub within : from ≤ length line
  pub few : length (fields_of (drop from line)) ≤ 8
  pub right : all is_field (fields_of (drop from line)) ≡ true

-- the buffer holds the part that each field gives
pub record PartsTaken (line : List ℕ) (from : ℕ) (bytes ends : List ℕ) : Type 0 where
  pub ordered : EndsInOrder bytes ends
  pub parts : (k : ℕ) → part_in bytes ends k ≡ part (fields_of (drop from line)) k
  pub half : 2 * get_or ends 8 0 ≤ length line

-- the part is copied to the front of a buffer
pub record PartCopied (bytes ends : List ℕ) (k : ℕ) (room : List ℕ) (size : ℕ) : Type 0 where
  pub copied : take size room ≡ part_in bytes ends k
  pub within : size ≤ length room
  pub below : size ≤ get_or ends 8 0

-- a part that is a number has four bytes, the lowest first
abbrev pub is_number : List ℕ → Bool
is_number p = eqb (length p) 4

abbrev pub number_in : List ℕ → ℕ
number_in p = get_or p 0 0 + 256 * get_or p 1 0 + 65536 * get_or p 2 0 + 16777216 * get_or p 3 0
