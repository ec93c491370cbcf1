-- Numbers and order of checks: the table of refusals, and what an operation says.
-- Assumes nothing.
use Rattle.std.specs.Prelude.{◌≡◌, Bool, true, false, cond, not, List, [], ◌∷◌, ◌++◌, ℕ, ◌%◌, ltb, eqb, length, get_or}
use Rattle.lemmas.specs.Lowest.{lowest}
use Rattle.spec.specs.Records.{bad, record_at, record_count}

-- a refusal, by its number and its place
pub data Refusal : Type 0 where
  numbered : (number place : ℕ) → Refusal

abbrev pub reason : (number place : ℕ) → Refusal
reason number place = numbered number place

-- who takes one apart goes by these
abbrev pub number_of : Refusal → ℕ
number_of (numbered number place) = number

abbrev pub place_of : Refusal → ℕ
place_of (numbered number place) = place

-- what an operation says: that it is refused, and why; or an answer of its own kind
pub data Said (A : Type 0) : Type 0 where
  refused : (why : Refusal) → Said A
  answered : (answer : A) → Said A

-- no refusal
abbrev pub is_answered : {A : Type 0} → Said A → Bool
is_answered (refused why) = false
is_answered (answered answer) = true

-- what checks say where none applies
abbrev pub passed : Said (Unit {0})
passed = answered tt

-- a row of the table: given exactly when, and the refusal that it makes
pub record Check : Type 0 where
  pub when : Bool
  pub why : Refusal

-- checks run in their order; the first that applies is given. Where none does, `after` is said
abbrev pub judge : {A : Type 0} → List Check → Said A → Said A
judge [] after = after
judge (c ∷ cs) after = cond c.when (refused c.why) (judge cs after)

-- what a buffer that is lent for writing holds afterwards: a refusal leaves it as it was
abbrev pub written : {A : Type 0} → Said A → (new old : List ℕ) → List ℕ
written (refused why) new old = old
written (answered answer) new old = new

-- the promise of an operation that is lent a buffer: the answer is the one due, and every byte left is the one due
pub record Does {A : Type 0} (due : A) (bytes : List ℕ) (answer : A) (left : List ℕ) : Type 0 where
  pub says : answer ≡ due
  pub writes : left ≡ bytes

-- the row that is given when one of the `count` places fails the test, with the refusal at the lowest such place
abbrev pub lowest_of : (ℕ → Refusal) → (ℕ → Bool) → ℕ → Check
lowest_of at_place fails count = record { when = ltb (lowest fails count) count; why = at_place (lowest fails count) }

-- 1: n above 256
unfoldable pub boxes_check : ℕ → Check
boxes_check n = record { when = ltb 256 n; why = reason 1 0 }

-- 2: maker's length not a multiple of 8; depot's likewise; together above 1,024 records
unfoldable pub maker_check : List ℕ → Check
maker_check maker = record { when = not (eqb (length maker % 8) 0); why = reason 2 0 }

unfoldable pub depot_check : List ℕ → Check
depot_check depot = record { when = not (eqb (length depot % 8) 0); why = reason 2 1 }

unfoldable pub count_check : List ℕ → List ℕ → Check
count_check maker depot = record { when = ltb 1024 (record_count maker depot); why = reason 2 2 }

-- 3: a record is bad
unfoldable pub record_check : ℕ → List ℕ → List ℕ → Check
record_check n maker depot = lowest_of (reason 3) (λ r. bad n (record_at maker depot r)) (record_count maker depot)

-- 4: a sheet byte above 2
unfoldable pub sheet_check : List ℕ → Check
sheet_check sheet = lowest_of (reason 4) (λ b. ltb 2 (get_or sheet b 0)) (length sheet)

-- 5: the given list's length is not n; the out buffer's length is not n
unfoldable pub given_check : ℕ → List ℕ → Check
given_check n given = record { when = not (eqb (length given) n); why = reason 5 0 }

unfoldable pub out_check : ℕ → List ℕ → Check
out_check n out = record { when = not (eqb (length out) n); why = reason 5 1 }

-- 6: the list has a byte above 1
unfoldable pub list_check : List ℕ → Check
list_check l = lowest_of (reason 6) (λ b. ltb 1 (get_or l b 0)) (length l)

-- the checks of the tables, with n boxes: 1, 2, 3
abbrev pub table_checks : ℕ → List ℕ → List ℕ → List Check
table_checks n maker depot =
    boxes_check n ∷ maker_check maker ∷ depot_check depot ∷ count_check maker depot ∷ record_check n maker depot ∷ []

-- with a sheet: 1, 2, 3, 4
abbrev pub sheet_checks : List ℕ → List ℕ → List ℕ → List Check
sheet_checks maker depot sheet = table_checks (length sheet) maker depot ++ sheet_check sheet ∷ []

-- Fill and First: 1, 2, 3, 4, 5 at place 1
abbrev pub order_checks : List ℕ → List ℕ → List ℕ → List ℕ → List Check
order_checks maker depot sheet out = sheet_checks maker depot sheet ++ out_check (length sheet) out ∷ []

-- Next: 1, 2, 3, 4, 5 at places 0 and 1, 6
abbrev pub next_checks : List ℕ → List ℕ → List ℕ → List ℕ → List ℕ → List Check
next_checks maker depot sheet given out =
    sheet_checks maker depot sheet
    ++ given_check (length sheet) given
    ∷ out_check (length sheet) out
    ∷ list_check given
    ∷ []
