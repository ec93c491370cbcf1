-- How the one-rule table is indexed: by a kind and three states.
-- Assumes nothing.
use Rattle.std.specs.Prelude.{ℕ, ◌+◌, ◌*◌, ◌-◌, ◌≤◌, ◌<◌}

-- the entry for x, y, z in states a, b, c
abbrev pub index_of : (kind a b c : ℕ) → ℕ
index_of kind a b c = 64 * (kind - 1) + 16 * a + 4 * b + c

-- a kind, and three states as they are coded
pub record Coded (kind a b c : ℕ) : Type 0 where
  pub first_kind : 1 ≤ kind
  pub last_kind : kind ≤ 4
  pub state_x : a < 4
  pub state_y : b < 4
  pub state_z : c < 4
