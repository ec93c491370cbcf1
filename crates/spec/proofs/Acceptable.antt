-- The definitions at their limits: the last value that is accepted and the first that is refused, with its number and place. Each row
-- has what is computed and what the paper says.
-- Modules are checked in the order of their names, each after those that it cites: so a wrong definition is refused by the samples, or
-- here, before any proof is looked at.
-- Assumes nothing.
use mathlib.Core.Path.{◌≡◌, refl}
use mathlib.Core.Bool.{Bool, true, false}
use mathlib.Core.List.Memᴰ
use mathlib.Core.List.{List, [], ◌∷◌, ◌++◌, map}
use Prim.Native.Nat.{ℕ}
use lib.Dec.{T}
use lib.ListN.{replicate}
use Rattle.lemmas.specs.Lowest.{lowest}
use Rattle.spec.specs.Kinds.{kind_of, places_of, meaning}
use Rattle.spec.specs.Rules.{rules_of}
use Rattle.spec.specs.Records.{Rec, rec_from, record_at, is_rule, rules_in, box_at, boxes_of, no_kind, lacks_z, two_equal, bad, record_count}
use Rattle.spec.specs.Facts.{holds, Closure, settled, fires, Clash}
use Rattle.spec.specs.Rounds.{has, names, gives, follows, code, round, closed}
use Rattle.spec.specs.Refusals.{number_of, place_of, Said, reason, refused, answered, is_answered, passed, Check, judge}
use Rattle.spec.specs.Refusals.{boxes_check, maker_check, depot_check, count_check, record_check, sheet_check, given_check, out_check, list_check}
use Rattle.spec.specs.Fits.{is_in, breaks, is_broken, first_broken, fits, broken, test_judges, test_says, Part, record_part, shows_part, bytes_of}
use Rattle.spec.specs.Fill.{closure_of, clashes, open_count, clash_check, broken_check, fill_judges, fill_says, fill_writes}
use Rattle.spec.specs.Kits.{full_lists, before, keeps, fits_all, kits, kits_after, is_none, head_of, none_check, first_says, first_writes, next_says, next_writes}
use Rattle.spec.specs.OneRule.{record_of, states_of, packed, outcome}
use Rattle.spec.proofs.Samples.{and_record, equ_record, same_record, not_record}

abbrev Agree : {A : Type 0} → List (A × A) → Type 0
Agree rows = map (λ r. r.0) rows ≡ map (λ r. r.1) rows

abbrev rec : (kind byte1 x y z : ℕ) → Rec
rec kind byte1 x y z = record { kind = kind; byte1 = byte1; x = x; y = y; z = z }

-- bytes that all differ, read from the second on: boxes 3 + 256 × 4, 5 + 256 × 6 and 7 + 256 × 8
pub read_limits :
    Agree
    ((rec_from (0 ∷ 1 ∷ 2 ∷ 3 ∷ 4 ∷ 5 ∷ 6 ∷ 7 ∷ 8 ∷ []) 1, rec 1 2 1027 1541 2055)
    ∷ (record_at and_record equ_record 0, rec 3 0 0 1 2)
    ∷ (record_at and_record equ_record 1, rec 1 0 0 2 65535)
    ∷ [])
unfolding rec_from record_at
read_limits = refl

-- with 3 boxes: kinds 0 and 5, with a z and without; byte 1; each box past the end; z missing and z that belongs to none; each pair of
-- boxes alike
pub bad_limits :
    Agree
    ((bad 3 (rec 3 0 0 1 2), false)
    ∷ (bad 3 (rec 4 0 2 1 0), false)
    ∷ (bad 3 (rec 1 0 0 2 65535), false)
    ∷ (bad 3 (rec 2 0 2 0 65535), false)
    ∷ (bad 3 (rec 0 0 0 1 2), true)
    ∷ (bad 3 (rec 0 0 0 1 65535), true)
    ∷ (bad 3 (rec 5 0 0 1 2), true)
    ∷ (bad 3 (rec 5 0 0 1 65535), true)
    ∷ (bad 3 (rec 3 1 0 1 2), true)
    ∷ (bad 3 (rec 3 0 3 1 2), true)
    ∷ (bad 3 (rec 3 0 0 3 2), true)
    ∷ (bad 3 (rec 3 0 0 1 3), true)
    ∷ (bad 3 (rec 4 0 0 1 65535), true)
    ∷ (bad 3 (rec 1 0 0 1 65534), true)
    ∷ (bad 3 (rec 1 0 0 1 2), true)
    ∷ (bad 3 (rec 2 0 0 1 65534), true)
    ∷ (bad 3 (rec 2 0 0 1 2), true)
    ∷ (bad 3 (rec 1 0 1 1 65535), true)
    ∷ (bad 3 (rec 3 0 0 0 2), true)
    ∷ (bad 3 (rec 3 0 0 1 0), true)
    ∷ (bad 3 (rec 3 0 0 1 1), true)
    ∷ [])
unfolding bad kind_of places_of box_at boxes_of no_kind lacks_z two_equal
bad_limits = refl

-- whether this kind of rule on boxes 0, 1 and 2 is broken, for each full list of three boxes in order
abbrev broken_by : ℕ → List Bool
broken_by kind = map (λ l. breaks l (rec kind 0 0 1 2)) (full_lists 3)

-- EQU, NOT, AND and OR
pub truth_limits :
    Agree
    ((broken_by 1, false ∷ false ∷ true ∷ true ∷ true ∷ true ∷ false ∷ false ∷ [])
    ∷ (broken_by 2, true ∷ true ∷ false ∷ false ∷ false ∷ false ∷ true ∷ true ∷ [])
    ∷ (broken_by 3, false ∷ true ∷ false ∷ true ∷ false ∷ true ∷ true ∷ false ∷ [])
    ∷ (broken_by 4, false ∷ true ∷ true ∷ false ∷ true ∷ false ∷ true ∷ false ∷ [])
    ∷ [])
unfolding kind_of meaning box_at is_in breaks
truth_limits = refl

-- a refusal is its number and its place, in this order, and no answer
pub reason_limits : Agree ((number_of (reason 1 2), 1) ∷ (place_of (reason 1 2), 2) ∷ [])
reason_limits = refl

pub answered_limits : Agree ((is_answered {A = Unit {0}} (refused (reason 1 2)), false) ∷ (is_answered passed, true) ∷ [])
answered_limits = refl

-- what is said where this check is the only one
abbrev said : Check → Said (Unit {0})
said c = judge (c ∷ []) passed

-- 256 and 257 boxes; lengths 16 and 15; 1,024 and 1,025 records in both tables; a bad record in either table; sheet bytes 2 and 3;
-- lengths 2, 1 and 3 for n = 2; list bytes 1 and 2. Then 7, 8 and 9, on lists made by hand: a box with both facts; a list with no open
-- box that breaks record 1, both, record 0 alone, record 2 of either split, none, and one with an open box; no list and a list
pub check_limits :
    Agree
    ((said (boxes_check 256), passed)
    ∷ (said (boxes_check 257), refused (reason 1 0))
    ∷ (said (maker_check (replicate 16 0)), passed)
    ∷ (said (maker_check (replicate 15 0)), refused (reason 2 0))
    ∷ (said (depot_check (replicate 16 0)), passed)
    ∷ (said (depot_check (replicate 15 0)), refused (reason 2 1))
    ∷ (said (count_check (replicate 4096 0) (replicate 4096 0)), passed)
    ∷ (said (count_check (replicate 4096 0) (replicate 4104 0)), refused (reason 2 2))
    ∷ (said (record_check 3 and_record equ_record), passed)
    ∷ (said (record_check 3 and_record (replicate 16 0)), refused (reason 3 1))
    ∷ (said (record_check 2 and_record equ_record), refused (reason 3 0))
    ∷ (said (sheet_check (0 ∷ 1 ∷ 2 ∷ [])), passed)
    ∷ (said (sheet_check (2 ∷ 3 ∷ 4 ∷ [])), refused (reason 4 1))
    ∷ (said (given_check 2 (replicate 2 0)), passed)
    ∷ (said (given_check 2 (replicate 1 0)), refused (reason 5 0))
    ∷ (said (given_check 2 (replicate 3 0)), refused (reason 5 0))
    ∷ (said (out_check 2 (replicate 2 0)), passed)
    ∷ (said (out_check 2 (replicate 1 0)), refused (reason 5 1))
    ∷ (said (out_check 2 (replicate 3 0)), refused (reason 5 1))
    ∷ (said (list_check (0 ∷ 1 ∷ [])), passed)
    ∷ (said (list_check (1 ∷ 2 ∷ 3 ∷ [])), refused (reason 6 1))
    ∷ (said (clash_check (0 ∷ 1 ∷ 2 ∷ [])), passed)
    ∷ (said (clash_check (0 ∷ 1 ∷ 3 ∷ [])), refused (reason 7 0))
    ∷ (said (broken_check and_record equ_record (1 ∷ 0 ∷ 0 ∷ [])), refused (reason 8 1))
    ∷ (said (broken_check and_record equ_record (1 ∷ 1 ∷ 0 ∷ [])), refused (reason 8 0))
    ∷ (said (broken_check and_record equ_record (1 ∷ 0 ∷ 1 ∷ [])), refused (reason 8 0))
    ∷ (said (broken_check (and_record ++ and_record) equ_record (1 ∷ 0 ∷ 0 ∷ [])), refused (reason 8 2))
    ∷ (said (broken_check and_record (and_record ++ equ_record) (1 ∷ 0 ∷ 0 ∷ [])), refused (reason 8 2))
    ∷ (said (broken_check and_record equ_record (1 ∷ 1 ∷ 1 ∷ [])), passed)
    ∷ (said (broken_check and_record equ_record (1 ∷ 0 ∷ 2 ∷ [])), passed)
    ∷ (said (none_check []), refused (reason 9 0))
    ∷ (said (none_check ([] ∷ [])), passed)
    ∷ [])
unfolding boxes_check maker_check depot_check count_check record_check sheet_check given_check out_check list_check clash_check broken_check none_check
    record_count lowest bad kind_of places_of box_at boxes_of no_kind lacks_z two_equal rec_from record_at
    clashes holds open_count is_rule is_in meaning breaks is_broken first_broken is_none
check_limits = refl

-- a fact that goes to the last of five boxes, and its opposite that comes back: eight rounds
pub closed_limits :
    Agree
    ((
      closed (rec 1 0 0 1 65535 ∷ rec 1 0 1 2 65535 ∷ rec 1 0 2 3 65535 ∷ rec 1 0 3 4 65535 ∷ rec 2 0 3 4 65535 ∷ []) (1 ∷ 2 ∷ 2 ∷ 2 ∷ 2 ∷ []),
      3 ∷ 3 ∷ 3 ∷ 3 ∷ 3 ∷ [],
    )
    ∷ [])
unfolding kind_of rules_of box_at holds has names gives follows code round closed
closed_limits = refl

-- with no rules the closure has the sheet's facts alone
closure_bare : {s : List ℕ} {b : ℕ} {state : Bool} → Closure [] s b state → T (holds s b state)
closure_bare (settled t) = t
closure_bare (fires q m r n p l c) = absurd (Memᴰ.not-nil m)

-- one fact is no clash, whether in or out
pub clash_limits : (Clash [] (1 ∷ []) 0 → ⊥) × (Clash [] (0 ∷ []) 0 → ⊥)
unfolding holds
clash_limits = (λ c. closure_bare c.0, λ c. closure_bare c.1)

-- the refusal alone, whatever the operation's answer
abbrev form : {A : Type 0} → Said A → Said (Unit {0})
form (refused why) = refused why
form (answered answer) = passed

-- where several checks apply the first is given. Test with too many boxes and a cut table; both tables cut; the depot's cut and a bad
-- record; the depot's cut and 1,025 records; 1,025 bad records, in both tables and in the depot's; a bad record in the depot and a list
-- byte; a list byte
pub test_order :
    Agree
    ((form (test_says (3 ∷ []) (3 ∷ []) (replicate 257 2)), refused (reason 1 0))
    ∷ (form (test_says (3 ∷ []) (3 ∷ []) (2 ∷ [])), refused (reason 2 0))
    ∷ (form (test_says (replicate 8 0) (3 ∷ []) (2 ∷ [])), refused (reason 2 1))
    ∷ (form (test_says (replicate 8200 0) (3 ∷ []) (2 ∷ [])), refused (reason 2 1))
    ∷ (form (test_says (replicate 8192 0) (replicate 8 0) (2 ∷ [])), refused (reason 2 2))
    ∷ (form (test_says [] (replicate 8200 0) (2 ∷ [])), refused (reason 2 2))
    ∷ (form (test_says same_record (replicate 8 0) (0 ∷ 2 ∷ [])), refused (reason 3 1))
    ∷ (form (test_says [] [] (0 ∷ 2 ∷ [])), refused (reason 6 1))
    ∷ [])
unfolding boxes_check maker_check depot_check count_check record_check list_check
    record_count lowest bad kind_of places_of box_at boxes_of no_kind lacks_z two_equal rec_from record_at test_judges test_says
test_order = refl

-- Fill with too many boxes and a cut table; both tables cut; the depot's cut and a sheet byte; a bad record and a sheet byte; a sheet
-- byte and the out buffer; the out buffer alone; a clash where the filled sheet breaks a rule too
pub fill_order :
    Agree
    ((form (fill_says (3 ∷ []) [] (replicate 257 3) []), refused (reason 1 0))
    ∷ (form (fill_says (3 ∷ []) (3 ∷ []) (0 ∷ 3 ∷ []) []), refused (reason 2 0))
    ∷ (form (fill_says [] (3 ∷ []) (0 ∷ 3 ∷ []) []), refused (reason 2 1))
    ∷ (form (fill_says (replicate 8 0) [] (0 ∷ 3 ∷ []) []), refused (reason 3 0))
    ∷ (form (fill_says [] [] (0 ∷ 3 ∷ []) []), refused (reason 4 1))
    ∷ (form (fill_says [] [] (0 ∷ 2 ∷ []) []), refused (reason 5 1))
    ∷ (form (fill_says same_record not_record (1 ∷ 2 ∷ []) (7 ∷ 8 ∷ [])), refused (reason 7 0))
    ∷ [])
unfolding boxes_check maker_check depot_check count_check record_check sheet_check out_check clash_check broken_check
    record_count lowest bad kind_of places_of box_at boxes_of no_kind lacks_z two_equal rec_from record_at rules_in is_rule
    rules_of holds has names gives follows code round closed closure_of clashes open_count is_in meaning breaks is_broken first_broken
    fill_judges fill_says
fill_order = refl

-- First with both tables cut; the depot's cut; a sheet byte; the out buffer. Next with both tables cut; the depot's cut; a sheet byte and
-- both lengths; both lengths; the given list's length; the out buffer's and a list byte; a list byte alone
pub list_order :
    Agree
    ((form (first_says (3 ∷ []) (3 ∷ []) (0 ∷ 3 ∷ []) []), refused (reason 2 0))
    ∷ (form (first_says [] (3 ∷ []) (0 ∷ 3 ∷ []) []), refused (reason 2 1))
    ∷ (form (first_says [] [] (0 ∷ 3 ∷ []) (0 ∷ 0 ∷ [])), refused (reason 4 1))
    ∷ (form (first_says [] [] (0 ∷ 2 ∷ []) []), refused (reason 5 1))
    ∷ (form (next_says (3 ∷ []) (3 ∷ []) (0 ∷ 3 ∷ []) [] []), refused (reason 2 0))
    ∷ (form (next_says [] (3 ∷ []) (0 ∷ 3 ∷ []) [] []), refused (reason 2 1))
    ∷ (form (next_says [] [] (0 ∷ 3 ∷ []) [] []), refused (reason 4 1))
    ∷ (form (next_says [] [] (0 ∷ 2 ∷ []) [] []), refused (reason 5 0))
    ∷ (form (next_says [] [] (0 ∷ 2 ∷ []) [] (0 ∷ 0 ∷ [])), refused (reason 5 0))
    ∷ (form (next_says [] [] (0 ∷ 2 ∷ []) (0 ∷ 2 ∷ []) []), refused (reason 5 1))
    ∷ (form (next_says [] [] (0 ∷ 2 ∷ []) (0 ∷ 2 ∷ []) (0 ∷ 0 ∷ [])), refused (reason 6 1))
    ∷ [])
unfolding boxes_check maker_check depot_check count_check record_check sheet_check given_check out_check list_check none_check
    record_count lowest bad kind_of places_of box_at boxes_of no_kind lacks_z two_equal rec_from record_at first_says next_says
list_order = refl

-- an out buffer of another length is left as it was
pub kept_limits :
    Agree
    ((fill_writes [] [] (0 ∷ 2 ∷ []) (7 ∷ []), 7 ∷ [])
    ∷ (first_writes [] [] (0 ∷ 2 ∷ []) (7 ∷ []), 7 ∷ [])
    ∷ (next_writes [] [] (0 ∷ 2 ∷ []) (0 ∷ 0 ∷ []) (7 ∷ []), 7 ∷ [])
    ∷ [])
unfolding boxes_check maker_check depot_check count_check record_check sheet_check given_check out_check list_check
    record_count lowest fill_says fill_writes first_says first_writes next_says next_writes
kept_limits = refl

-- two records in the maker's table, one in the depot's: which is broken; then one and two
pub verdict_limits :
    Agree
    ((test_says (and_record ++ and_record) equ_record (1 ∷ 1 ∷ 0 ∷ []), answered (broken 0))
    ∷ (test_says (and_record ++ and_record) equ_record (1 ∷ 0 ∷ 0 ∷ []), answered (broken 2))
    ∷ (test_says (and_record ++ and_record) equ_record (1 ∷ 1 ∷ 1 ∷ []), answered fits)
    ∷ (test_says and_record (and_record ++ equ_record) (1 ∷ 0 ∷ 0 ∷ []), answered (broken 2))
    ∷ [])
unfolding boxes_check maker_check depot_check count_check record_check list_check
    record_count lowest bad kind_of places_of box_at boxes_of no_kind lacks_z two_equal rec_from record_at is_rule
    is_in meaning breaks is_broken first_broken test_judges test_says
verdict_limits = refl

abbrev in_makers : ℕ → Part
in_makers start = record { depots = false; start = start; size = 8 }

abbrev in_depots : ℕ → Part
in_depots start = record { depots = true; start = start; size = 8 }

-- and where it lies: the last record of the maker's table and the first of the depot's, the last of nine; then by Show, of a broken record and where the
-- list fits
pub part_limits :
    Agree
    ((record_part (replicate 16 0) 0, in_makers 0)
    ∷ (record_part (replicate 16 0) 1, in_makers 8)
    ∷ (record_part (replicate 16 0) 2, in_depots 0)
    ∷ (record_part (replicate 16 0) 3, in_depots 8)
    ∷ (record_part (replicate 72 0) 8, in_makers 64)
    ∷ (shows_part (and_record ++ and_record) equ_record (1 ∷ 0 ∷ 0 ∷ []), in_depots 0)
    ∷ (shows_part (and_record ++ and_record) equ_record (1 ∷ 1 ∷ 1 ∷ []), record { depots = false; start = 0; size = 0 })
    ∷ [])
unfolding boxes_check maker_check depot_check count_check record_check list_check
    record_count lowest bad kind_of places_of box_at boxes_of no_kind lacks_z two_equal rec_from record_at is_rule
    is_in meaning breaks is_broken first_broken test_judges test_says record_part shows_part
part_limits = refl

-- its bytes
pub bytes_limits :
    Agree
    ((bytes_of (same_record ++ and_record) equ_record (in_makers 8), and_record)
    ∷ (bytes_of and_record (same_record ++ equ_record) (in_depots 8), equ_record)
    ∷ [])
unfolding bytes_of
bytes_limits = refl

-- lists that differ at the last box, at the middle one, at the first though not at the others, and nowhere
pub before_limits :
    Agree
    ((before (0 ∷ 1 ∷ 0 ∷ []) (0 ∷ 1 ∷ 1 ∷ []), true)
    ∷ (before (0 ∷ 1 ∷ 1 ∷ []) (0 ∷ 1 ∷ 0 ∷ []), false)
    ∷ (before (0 ∷ 0 ∷ 1 ∷ []) (0 ∷ 1 ∷ 0 ∷ []), true)
    ∷ (before (1 ∷ 0 ∷ 0 ∷ []) (0 ∷ 1 ∷ 1 ∷ []), false)
    ∷ (before (0 ∷ 1 ∷ 1 ∷ []) (1 ∷ 0 ∷ 0 ∷ []), true)
    ∷ (before (1 ∷ 0 ∷ 1 ∷ []) (1 ∷ 0 ∷ 1 ∷ []), false)
    ∷ [])
before_limits = refl

-- a box settled out, one settled in, and an open one: with no rule, with box 0 = box 2, and where box 2 is settled against it
pub kit_limits :
    Agree
    ((kits [] [] (0 ∷ 1 ∷ 2 ∷ []), (0 ∷ 1 ∷ 0 ∷ []) ∷ (0 ∷ 1 ∷ 1 ∷ []) ∷ [])
    ∷ (kits [] equ_record (0 ∷ 1 ∷ 2 ∷ []), (0 ∷ 1 ∷ 0 ∷ []) ∷ [])
    ∷ (kits equ_record [] (0 ∷ 2 ∷ 1 ∷ []), [])
    ∷ [])
unfolding kits keeps fits_all rules_in is_rule record_count record_at rec_from kind_of box_at is_in meaning breaks
kit_limits = refl

-- the list handed out needs both tables; and where only both together leave none, nothing is written
pub list_limits :
    Agree
    ((first_writes and_record equ_record (1 ∷ 2 ∷ 2 ∷ []) (7 ∷ 8 ∷ 9 ∷ []), 1 ∷ 1 ∷ 1 ∷ [])
    ∷ (next_writes and_record equ_record (2 ∷ 2 ∷ 2 ∷ []) (0 ∷ 1 ∷ 0 ∷ []) (7 ∷ 8 ∷ 9 ∷ []), 1 ∷ 1 ∷ 1 ∷ [])
    ∷ (next_writes same_record not_record (2 ∷ 2 ∷ []) (0 ∷ 0 ∷ []) (7 ∷ 8 ∷ []), 7 ∷ 8 ∷ [])
    ∷ [])
unfolding boxes_check maker_check depot_check count_check record_check sheet_check given_check out_check list_check none_check
    record_count lowest bad kind_of places_of box_at boxes_of no_kind lacks_z two_equal rec_from record_at rules_in is_rule
    is_in meaning breaks kits keeps fits_all kits_after is_none head_of first_says first_writes next_says next_writes
list_limits = refl

-- the first entries of each kind, and the last but one of NOT
pub entry_limits :
    Agree ((outcome 0, 0) ∷ (outcome 64, 60) ∷ (outcome 126, 62) ∷ (outcome 128, 0) ∷ (outcome 192, 0) ∷ (outcome 193, 63) ∷ [])
unfolding kind_of rules_of box_at holds has names gives follows code round closed record_of states_of packed outcome
entry_limits = refl
