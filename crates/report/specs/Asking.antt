-- Which list is at hand while the lists are asked for one after the other.
-- Assumes nothing.
use Rattle.std.specs.Prelude.{◌≡◌, Bool, true, false, List, [], ◌∷◌, ℕ, ◌≤◌, length}
use Rattle.spec.specs.Refusals.{passed, judge, sheet_checks}

-- tables and sheet have passed, and the buffer has the sheet's length
pub record Listable (maker depot sheet kit : List ℕ) : Type 0 where
  pub passes : judge (sheet_checks maker depot sheet) passed ≡ passed
  pub size : length kit ≡ length sheet

-- a buffer for a sheet: it has the sheet's length, where the sheet has no more than 256 boxes
pub record RoomForSheet (sheet buffer : List ℕ) : Type 0 where
  pub size : length sheet ≤ 256 → length buffer ≡ length sheet

-- l is the first of these lists; or there is none
abbrev pub AtHead : List (List ℕ) → Bool → List ℕ → Type 0
AtHead ls true l = (rest : List (List ℕ)) × (ls ≡ l ∷ rest)
AtHead ls false l = ls ≡ []
