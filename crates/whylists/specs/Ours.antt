-- Our why-list: as long as one follows, the lowest box that then follows, by the lowest record that gives it.
-- Assumes nothing.
use Rattle.std.specs.Prelude.{Bool, true, false, cond, ◌&&◌, ◌||◌, List, [], ◌∷◌, ◌++◌, ℕ, zero, suc, ◌/◌, ◌%◌, ltb, eqb, length, get_or, set}
use Rattle.lemmas.specs.Lists.{any, upto}
use Rattle.lemmas.specs.Lowest.{lowest}
use Rattle.spec.specs.Records.{record_at, record_count}
use Rattle.whylists.specs.Lines.{Line, given_by}

module _ (maker depot : List ℕ) where
  -- record r gives box b a state
  unfoldable pub gives_box : List ℕ → (b r : ℕ) → Bool
  gives_box s b r = given_by s b false (record_at maker depot r) || given_by s b true (record_at maker depot r)

  -- box b follows now: it is open, and some record gives it a state
  unfoldable pub follows_now : List ℕ → ℕ → Bool
  follows_now s b = eqb (get_or s b 0) 2 && any (gives_box s b) (upto (record_count maker depot))

  -- the lowest box that does, or the number of boxes
  unfoldable pub next_box : List ℕ → ℕ
  next_box s = lowest (follows_now s) (length s)

  -- the lowest record that gives it
  unfoldable pub by_record : List ℕ → ℕ
  by_record s = lowest (gives_box s (next_box s)) (record_count maker depot)

  -- and the state that it gives
  unfoldable pub state_by : List ℕ → ℕ
  state_by s = cond (given_by s (next_box s) true (record_at maker depot (by_record s))) 1 0

  unfoldable pub next_line : List ℕ → Line
  next_line s = record { box = next_box s; state = state_by s; byte3 = 0; number = by_record s; bytes67 = 0 }

  -- at most k lines from the states s on
  abbrev pub lines_from : ℕ → List ℕ → List Line
  lines_from zero s = []
  lines_from (suc k) s = cond (ltb (next_box s) (length s)) (next_line s ∷ lines_from k (set s (next_box s) (state_by s))) []

-- our list: each line settles a box, so there are no more lines than boxes
unfoldable pub ours : (maker depot sheet : List ℕ) → List Line
ours maker depot sheet = lines_from maker depot (length sheet) sheet

-- the eight bytes of a line
abbrev pub line_bytes : Line → List ℕ
line_bytes a =
    (a.box % 256) ∷ (a.box / 256) ∷ a.state ∷ a.byte3 ∷ (a.number % 256) ∷ (a.number / 256) ∷ (a.bytes67 % 256) ∷ (a.bytes67 / 256) ∷ []

abbrev pub lines_bytes : List Line → List ℕ
lines_bytes [] = []
lines_bytes (a ∷ rest) = line_bytes a ++ lines_bytes rest
