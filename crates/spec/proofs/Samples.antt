-- The samples marked P, of the definitions that the promises cite, in one table under one statement.
-- Assumes nothing.
use mathlib.Core.Path.{◌≡◌, refl}
use mathlib.Core.Bool.{true, false}
use mathlib.Core.List.{List, [], ◌∷◌, map}
use Prim.Native.Nat.{ℕ}
use Rattle.lemmas.specs.Lowest.{lowest}
use Rattle.spec.specs.Kinds.{kind_of, places_of, meaning}
use Rattle.spec.specs.Rules.{rules_of}
use Rattle.spec.specs.Records.{rec_from, record_at, record_count, is_rule, rules_in, box_at, boxes_of, no_kind, lacks_z, two_equal, bad}
use Rattle.spec.specs.Facts.{holds}
use Rattle.spec.specs.Rounds.{has, names, gives, follows, code, round, closed}
use Rattle.spec.specs.Refusals.{Said, reason, refused, answered, boxes_check, maker_check, depot_check, count_check, record_check, sheet_check}
use Rattle.spec.specs.Refusals.{given_check, out_check, list_check}
use Rattle.spec.specs.Fits.{is_in, breaks, is_broken, first_broken, Verdict, broken, test_judges, test_says, Part, record_part, shows_part}
use Rattle.spec.specs.Fill.{closure_of, clashes, boxes_filled, open_count, clash_check, broken_check, fill_judges, fill_says, fill_writes}
use Rattle.spec.specs.Kits.{keeps, fits_all, kits, kits_after, is_none, head_of, none_check, handed_out, first_says, first_writes, next_says, next_writes}
use Rattle.spec.specs.OneRule.{record_of, states_of, packed, outcome}

-- a call of an operation on two tables, with the out buffer that it is lent; the list of all kits; or an entry of the one-rule table
pub data Call : Type 0 where
  fill : (sheet out : List ℕ) → Call
  test : (l : List ℕ) → Call
  first : (sheet out : List ℕ) → Call
  next : (sheet given out : List ℕ) → Call
  all : (sheet : List ℕ) → Call
  entry : ℕ → Call

-- what is said, and the list written; the part shown; the kits; the number held
pub data Answer : Type 0 where
  fills : Said ℕ → List ℕ → Answer
  shows : Said Verdict → Part → Answer
  hands : Said (Unit {0}) → List ℕ → Answer
  lists : List (List ℕ) → Answer
  number : ℕ → Answer

abbrev answer : List ℕ → List ℕ → Call → Answer
answer m d (fill s out) = fills (fill_says m d s out) (fill_writes m d s out)
answer m d (test l) = shows (test_says m d l) (shows_part m d l)
answer m d (first s out) = hands (first_says m d s out) (first_writes m d s out)
answer m d (next s g out) = hands (next_says m d s g out) (next_writes m d s g out)
answer m d (all s) = lists (kits m d s)
answer m d (entry k) = number (outcome k)

pub record Sample : Type 0 where
  pub maker : List ℕ
  pub depot : List ℕ
  pub call : Call
  pub paper : Answer

-- maker's record: box 0 and box 1 = box 2
abbrev pub and_record : List ℕ
and_record = 3 ∷ 0 ∷ 0 ∷ 0 ∷ 1 ∷ 0 ∷ 2 ∷ 0 ∷ []

-- depot's record: box 0 = box 2
abbrev pub equ_record : List ℕ
equ_record = 1 ∷ 0 ∷ 0 ∷ 0 ∷ 2 ∷ 0 ∷ 255 ∷ 255 ∷ []

-- box 0 = box 1, and not box 0 = box 1
abbrev pub same_record : List ℕ
same_record = 1 ∷ 0 ∷ 0 ∷ 0 ∷ 1 ∷ 0 ∷ 255 ∷ 255 ∷ []

abbrev pub not_record : List ℕ
not_record = 2 ∷ 0 ∷ 0 ∷ 0 ∷ 1 ∷ 0 ∷ 255 ∷ 255 ∷ []

-- NOT of box 0 and box 0
self_record : List ℕ
self_record = 2 ∷ 0 ∷ 0 ∷ 0 ∷ 0 ∷ 0 ∷ 255 ∷ 255 ∷ []

-- out buffers of three bytes and of two, which no sheet has
abbrev three : List ℕ
three = 7 ∷ 8 ∷ 9 ∷ []

abbrev two : List ℕ
two = 7 ∷ 8 ∷ []

abbrev on_a : Call → Answer → Sample
on_a c a = record { maker = and_record; depot = equ_record; call = c; paper = a }

abbrev on_p : Call → Answer → Sample
on_p c a = record { maker = same_record; depot = not_record; call = c; paper = a }

abbrev on_none : Call → Answer → Sample
on_none c a = record { maker = []; depot = []; call = c; paper = a }

pub table : List Sample
table =
    on_a (fill (1 ∷ 2 ∷ 2 ∷ []) three) (fills (answered 2) (1 ∷ 1 ∷ 1 ∷ []))
    ∷ on_a (fill (2 ∷ 0 ∷ 2 ∷ []) three) (fills (answered 2) (0 ∷ 0 ∷ 0 ∷ []))
    ∷ on_a (fill (2 ∷ 2 ∷ 2 ∷ []) three) (fills (answered 0) (2 ∷ 2 ∷ 2 ∷ []))
    ∷ on_a (fill (1 ∷ 0 ∷ 2 ∷ []) three) (fills (refused (reason 7 0)) three)
    ∷ on_a (all (2 ∷ 2 ∷ 2 ∷ [])) (lists ((0 ∷ 0 ∷ 0 ∷ []) ∷ (0 ∷ 1 ∷ 0 ∷ []) ∷ (1 ∷ 1 ∷ 1 ∷ []) ∷ []))
    ∷ on_a (first (2 ∷ 2 ∷ 2 ∷ []) three) (hands handed_out (0 ∷ 0 ∷ 0 ∷ []))
    ∷ on_a (next (2 ∷ 2 ∷ 2 ∷ []) (0 ∷ 1 ∷ 1 ∷ []) three) (hands handed_out (1 ∷ 1 ∷ 1 ∷ []))
    ∷ on_a (next (2 ∷ 2 ∷ 2 ∷ []) (1 ∷ 1 ∷ 1 ∷ []) three) (hands (refused (reason 9 0)) three)
    ∷ on_a (test (1 ∷ 0 ∷ 0 ∷ [])) (shows (answered (broken 1)) (record { depots = true; start = 0; size = 8 }))
    ∷ on_a (test (1 ∷ 1 ∷ 0 ∷ [])) (shows (answered (broken 0)) (record { depots = false; start = 0; size = 8 }))
    ∷ on_p (fill (2 ∷ 2 ∷ []) two) (fills (answered 0) (2 ∷ 2 ∷ []))
    ∷ on_p (first (2 ∷ 2 ∷ []) two) (hands (refused (reason 9 0)) two)
    ∷ on_none (entry 150) (number 21)
    ∷ on_none (entry 168) (number 40)
    ∷ on_none (entry 201) (number 5)
    ∷ on_none (entry 6) (number 62)
    ∷ on_none (entry 137) (number 63)
    ∷ on_none (entry 106) (number 42)
    ∷ on_none (fill [] []) (fills (answered 0) [])
    ∷ on_none (first [] []) (hands handed_out [])
    ∷ on_none (next [] [] []) (hands (refused (reason 9 0)) [])
    ∷ record { maker = self_record; depot = []; call = test (0 ∷ []); paper = shows (refused (reason 3 0)) (record { depots = false; start = 0; size = 0 }) }
    ∷ []

pub computed : Sample → Answer
computed p = answer p.maker p.depot p.call

pub paper_of : Sample → Answer
paper_of p = p.paper

-- P1 to P12, and no boxes under no rules: each call answers what the paper says
pub samples : map computed table ≡ map paper_of table
unfolding table self_record computed paper_of
    lowest kind_of places_of meaning rules_of rec_from record_at record_count is_rule rules_in box_at boxes_of no_kind lacks_z two_equal bad
    holds has names gives follows code round closed
    boxes_check maker_check depot_check count_check record_check sheet_check given_check out_check list_check
    is_in breaks is_broken first_broken test_judges test_says record_part shows_part
    closure_of clashes boxes_filled open_count clash_check broken_check fill_judges fill_says fill_writes
    keeps fits_all kits kits_after is_none head_of none_check first_says first_writes next_says next_writes
    record_of states_of packed outcome
samples = refl
