-- The next line as a search finds it: the lowest box that a record gives a state, among those below a bound.
-- Assumes nothing.
use Rattle.std.specs.Prelude.{◌≡◌, Bool, true, false, ◌&&◌, ◌||◌, List, ℕ, ◌≤◌, ◌<◌, eqb, get_or, Option, Some, None}
use Rattle.spec.specs.Records.{Rec, record_at}
use Rattle.whylists.specs.Lines.{given_by}
use Rattle.why.specs.declared.next.Next.{Next}

-- box c is open, and the record gives it a state
unfoldable pub offers : List ℕ → Rec → ℕ → Bool
offers s q c = eqb (get_or s c 2) 2 && (given_by s c false q || given_by s c true q)

-- box c has been offered, with `best` the lowest so far and r the lowest with it
pub record Offered (s : List ℕ) (q : Rec) (c best r : ℕ) : Type 0 where
  pub within : r ≤ best
  pub taken : r < best → (r ≡ c) × (offers s q r ≡ true)
  pub passed : c < r → offers s q c ≡ false

-- of the first i records: b is the lowest box below n that one of them gives a state, and `number` the lowest that gives it one
pub record LowestGiven (maker depot s : List ℕ) (n i b number : ℕ) : Type 0 where
  pub within : b < n
  pub none : (c : ℕ) → c < b → (j : ℕ) → j < i → offers s (record_at maker depot j) c ≡ false
  pub counted : number < i
  pub given : offers s (record_at maker depot number) b ≡ true
  pub lowest : (j : ℕ) → j < number → offers s (record_at maker depot j) b ≡ false

-- none of the first i records gives a box below n a state
abbrev pub NoneGiven : (maker depot s : List ℕ) (n i : ℕ) → Type 0
NoneGiven maker depot s n i = (c : ℕ) → c < n → (j : ℕ) → j < i → offers s (record_at maker depot j) c ≡ false

-- the next line as those records give it, if they give one
abbrev pub NextGiven : (maker depot s : List ℕ) (n i : ℕ) → Option Next → Type 0
NextGiven maker depot s n i None = NoneGiven maker depot s n i
NextGiven maker depot s n i (Some next) = LowestGiven maker depot s n i next.b next.number
