-- Test and Show: whether a full list makes every rule true by its truth table, and the first record that it breaks.
-- Assumes nothing.
use Rattle.std.specs.Prelude.{Bool, true, false, cond, not, ◌&&◌, List, [], ◌∷◌, ◌++◌, ℕ, ◌*◌, ◌-◌, ltb, eqb, length, get_or, take, drop}
use Rattle.lemmas.specs.Lowest.{lowest}
use Rattle.spec.specs.Kinds.{kind_of, meaning}
use Rattle.spec.specs.Records.{Rec, box_at, record_at, record_count, is_rule}
use Rattle.spec.specs.Refusals.{Said, refused, answered, Check, judge, table_checks, list_check}

-- box b is in on the list
unfoldable pub is_in : List ℕ → ℕ → Bool
is_in l b = eqb (get_or l b 0) 1

-- the rule's truth table is false of the list
unfoldable pub breaks : List ℕ → Rec → Bool
breaks l q = not (meaning (kind_of q.kind) (λ p. is_in l (box_at q p)))

-- the record is a rule, and broken
unfoldable pub is_broken : List ℕ → Rec → Bool
is_broken l q = is_rule q && breaks l q

-- the lowest broken record; the number of records where none is
unfoldable pub first_broken : List ℕ → List ℕ → List ℕ → ℕ
first_broken maker depot l = lowest (λ r. is_broken l (record_at maker depot r)) (record_count maker depot)

-- Test's answer: the list fits, or this is the first broken record
pub data Verdict : Type 0 where
  fits : Verdict
  broken : (record_number : ℕ) → Verdict

abbrev pub test_checks : List ℕ → List ℕ → List ℕ → List Check
test_checks maker depot l = table_checks (length l) maker depot ++ list_check l ∷ []

-- what Test says of a call in form
unfoldable pub test_judges : List ℕ → List ℕ → List ℕ → Said Verdict
test_judges maker depot l =
    answered (cond (ltb (first_broken maker depot l) (record_count maker depot)) (broken (first_broken maker depot l)) fits)

-- Test: the refusal; or that the list fits, or the number of the first broken record
unfoldable pub test_says : List ℕ → List ℕ → List ℕ → Said Verdict
test_says maker depot l = judge (test_checks maker depot l) (test_judges maker depot l)

-- a part of one of the two tables: whether it is the depot's, where it starts, how many bytes it has
pub record Part : Type 0 where
  pub depots : Bool
  pub start : ℕ
  pub size : ℕ

-- the eight bytes of a record, in whichever table holds it
unfoldable pub record_part : List ℕ → ℕ → Part
record_part maker number =
    cond (ltb (8 * number) (length maker)) (record { depots = false; start = 8 * number; size = 8 })
    (record { depots = true; start = 8 * number - length maker; size = 8 })

-- the part for what Test says: of the broken record; else the empty part at the start of the maker's table
abbrev pub part_for : List ℕ → Said Verdict → Part
part_for maker (answered (broken number)) = record_part maker number
part_for maker (answered fits) = record { depots = false; start = 0; size = 0 }
part_for maker (refused why) = record { depots = false; start = 0; size = 0 }

-- Show
unfoldable pub shows_part : List ℕ → List ℕ → List ℕ → Part
shows_part maker depot l = part_for maker (test_says maker depot l)

-- the bytes of a part
unfoldable pub bytes_of : List ℕ → List ℕ → Part → List ℕ
bytes_of maker depot p = take p.size (drop p.start (cond p.depots depot maker))
