-- A kit: a full list that keeps a sheet's settled boxes and fits every rule; and the questions that First and Next ask.
-- Assumes nothing.
use Rattle.std.specs.Prelude.{◌≡◌, Bool, true, false, ℕ, ◌≤◌, ◌<◌, length, get_or}
use mathlib.Core.List.{List, Memᴰ}
use Rattle.spec.specs.Records.{Rec, rules_in}
use Rattle.spec.specs.Fits.{breaks}
use Rattle.spec.specs.Kits.{before}
use Rattle.kits.specs.Order.{Question}

-- a full list of n boxes: a sheet with no 2
pub record IsFull (n : ℕ) (l : List ℕ) : Type 0 where
  pub boxes : length l ≡ n
  pub bits : (b : ℕ) → b < n → get_or l b 2 ≤ 1

-- the first b boxes are settled, out or in
abbrev pub SettledBelow : ℕ → List ℕ → Type 0
SettledBelow b s = (c : ℕ) → c < b → get_or s c 2 ≤ 1

-- nothing is settled at n or past it
abbrev pub OpenFrom : ℕ → List ℕ → Type 0
OpenFrom n s = (b : ℕ) → n ≤ b → get_or s b 2 ≡ 2

-- l is a kit of n boxes for the sheet s; of s only the first n boxes matter
pub record Kit (qs : List Rec) (n : ℕ) (s l : List ℕ) : Type 0 where
  pub full : IsFull n l
  pub keeps : (b : ℕ) → b < n → (get_or s b 2 ≡ 2 → ⊥) → get_or l b 2 ≡ get_or s b 2
  pub fits : (q : Rec) → Memᴰ q qs → breaks l q ≡ false

-- where a list strictly after the given one is asked for, l is one
abbrev pub After : Bool → List ℕ → List ℕ → Type 0
After true given l = before given l ≡ true
After false given l = Unit {0}

-- what a search is asked for: a kit, and if `after`, one strictly after the given list
pub record Wanted (qs : List Rec) (n : ℕ) (s : List ℕ) (after : Bool) (given l : List ℕ) : Type 0 where
  pub kit : Kit qs n s l
  pub later : After after given l

-- First asks for the kits of the sheet, Next for those strictly after the given list
abbrev pub FirstAsks : (maker depot sheet : List ℕ) → Question
FirstAsks maker depot sheet = Kit (rules_in maker depot) (length sheet) sheet

abbrev pub NextAsks : (maker depot sheet given : List ℕ) → Question
NextAsks maker depot sheet given = Wanted (rules_in maker depot) (length sheet) sheet true given
