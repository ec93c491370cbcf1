-- The one-rule table: what entry k holds, for k below 256.
-- Assumes nothing.
use Rattle.std.specs.Prelude.{List, [], ◌∷◌, ℕ, ◌+◌, ◌*◌, ◌/◌, ◌%◌, get_or}
use Rattle.spec.specs.Records.{Rec}
use Rattle.spec.specs.Rounds.{closed}

-- a record of this kind on the boxes 0, 1, 2: the three boxes taken as different
abbrev pub alone : ℕ → Rec
alone kind = record { kind = kind; byte1 = 0; x = 0; y = 1; z = 2 }

-- entry 64 × (kind − 1) + 16 × a + 4 × b + c
unfoldable pub record_of : ℕ → Rec
record_of k = alone (k / 64 + 1)

-- the states a, b, c of its boxes; and so those of 16 × a' + 4 × b' + c'
unfoldable pub states_of : ℕ → List ℕ
states_of k = (k / 16 % 4) ∷ (k / 4 % 4) ∷ (k % 4) ∷ []

unfoldable pub packed : List ℕ → ℕ
packed s = 16 * get_or s 0 0 + 4 * get_or s 1 0 + get_or s 2 0

-- the closure of those facts under that kind's rules alone
unfoldable pub outcome : ℕ → ℕ
outcome k = packed (closed (record_of k ∷ []) (states_of k))
