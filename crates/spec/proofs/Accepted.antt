-- What is known once checks of form have passed, each fact by its name.
-- Assumes nothing.
use mathlib.Core.Path.{◌≡◌, refl, sym, ap, subst, ◌∙◌}
use mathlib.Core.Bool.{Bool, false, not, ◌&&◌, ◌||◌}
use mathlib.Core.List.{List, [], ◌∷◌}
use Prim.Native.Nat.{ℕ, ◌≤◌, ◌<◌, ◌%◌}
use native.Mathlib.Omega.{arith}
use borrow.Author.Tests.{ltb-false, eqb-true, not-false}
use lib.Dec.{T, leb, eqb, leb→le, le→leb}
use lib.ListN.{length, get_or}
use Rattle.lemmas.specs.Lists.{any}
use Rattle.lemmas.proofs.Lowest.{lowest_below}
use Rattle.lemmas.proofs.Reading.{get_or_each}
use Rattle.lemmas.proofs.Tests.{false_T, or_false_left, or_false_right}
use Rattle.lemmas.proofs.Members.{any_member, any_of}
use Rattle.spec.specs.Kinds.{kind_of}
use Rattle.spec.specs.Records.{Rec, bad, boxes_of, no_kind, lacks_z, two_equal, record_at, record_count}
use Rattle.spec.specs.Refusals.{passed, Check, judge, table_checks, sheet_checks, order_checks, next_checks, boxes_check, maker_check, depot_check}
use Rattle.spec.specs.Refusals.{count_check, record_check, sheet_check, given_check, out_check, list_check}
use Rattle.spec.specs.Fits.{test_checks}
use Rattle.spec.proofs.Judge.{Passes, judge_passes, judge_left, judge_right}

-- both tables hold whole records
pub record WholeRecords (maker depot : List ℕ) : Type 0 where
  pub makers : length maker % 8 ≡ 0
  pub depots : length depot % 8 ≡ 0

-- the tables are accepted, with n boxes
pub record Accepted (n : ℕ) (maker depot : List ℕ) : Type 0 where
  pub boxes : n ≤ 256
  pub whole : WholeRecords maker depot
  pub count : record_count maker depot ≤ 1024
  pub good : (r : ℕ) → r < record_count maker depot → bad n (record_at maker depot r) ≡ false

-- and a sheet of n boxes
pub record AcceptedSheet (n : ℕ) (maker depot sheet : List ℕ) : Type 0 where
  pub tables : Accepted n maker depot
  pub sheet_length : length sheet ≡ n
  pub sheet_bytes : (b : ℕ) → get_or sheet b 2 ≤ 2

-- Fill's and First's call
pub record AcceptedOrder (maker depot sheet out : List ℕ) : Type 0 where
  pub order : AcceptedSheet (length sheet) maker depot sheet
  pub out_length : length out ≡ length sheet

-- Next's
pub record AcceptedNext (maker depot sheet given out : List ℕ) : Type 0 where
  pub order : AcceptedSheet (length sheet) maker depot sheet
  pub given_length : length given ≡ length sheet
  pub out_length : length out ≡ length sheet

pub tables_accepted : (n : ℕ) (maker depot : List ℕ) → judge (table_checks n maker depot) passed ≡ passed → Accepted n maker depot
unfolding boxes_check maker_check depot_check count_check record_check
tables_accepted n maker depot e = named (judge_passes (table_checks n maker depot) e)
  where
    named : Passes (table_checks n maker depot) → Accepted n maker depot
    named (boxes, (makers, (depots, (count, (records, _))))) =
        record {
          boxes = ltb-false _ _ boxes;
          whole = record { makers = eqb-true _ _ (not-false _ makers); depots = eqb-true _ _ (not-false _ depots) };
          count = ltb-false _ _ count;
          good = λ r l. lowest_below _ _ r (ltb-false _ _ records) l;
        }

-- where Test's checks have passed, the tables' have
pub test_accepted : (maker depot l : List ℕ) → judge (test_checks maker depot l) passed ≡ passed → Accepted (length l) maker depot
test_accepted maker depot l e =
    tables_accepted (length l) maker depot (judge_left (table_checks (length l) maker depot) (list_check l ∷ []) e)

pub sheet_accepted : (maker depot sheet : List ℕ) → judge (sheet_checks maker depot sheet) passed ≡ passed →
    AcceptedSheet (length sheet) maker depot sheet
unfolding sheet_check
sheet_accepted maker depot sheet e =
    record {
      tables = tables_accepted (length sheet) maker depot (judge_left (table_checks (length sheet) maker depot) (sheet_check sheet ∷ []) e);
      sheet_length = refl;
      sheet_bytes = get_or_each (λ c. c ≤ 2) sheet 0 2 small (omega arith);
    }
  where
    bytes : judge (sheet_check sheet ∷ []) passed ≡ passed
    bytes = judge_right (table_checks (length sheet) maker depot) (sheet_check sheet ∷ []) e

    small : (b : ℕ) → b < length sheet → get_or sheet b 0 ≤ 2
    small b l = ltb-false _ _ (lowest_below _ _ b (ltb-false _ _ (judge_passes (sheet_check sheet ∷ []) bytes).0) l)

pub order_accepted : (maker depot sheet out : List ℕ) → judge (order_checks maker depot sheet out) passed ≡ passed →
    AcceptedOrder maker depot sheet out
unfolding out_check
order_accepted maker depot sheet out e =
    record {
      order = sheet_accepted maker depot sheet (judge_left (sheet_checks maker depot sheet) (out_check (length sheet) out ∷ []) e);
      out_length =
          eqb-true _ _
          (not-false _
          (judge_passes (out_check (length sheet) out ∷ []) (judge_right (sheet_checks maker depot sheet) (out_check (length sheet) out ∷ []) e)).0);
    }

pub next_accepted : (maker depot sheet given out : List ℕ) → judge (next_checks maker depot sheet given out) passed ≡ passed →
    AcceptedNext maker depot sheet given out
unfolding given_check out_check
next_accepted maker depot sheet given out e = named (judge_passes lists (judge_right (sheet_checks maker depot sheet) lists e))
  where
    lists : List Check
    lists = given_check (length sheet) given ∷ out_check (length sheet) out ∷ list_check given ∷ []

    named : Passes lists → AcceptedNext maker depot sheet given out
    named (same-given, (same_out, _)) =
        record {
          order = sheet_accepted maker depot sheet (judge_left (sheet_checks maker depot sheet) lists e);
          given_length = eqb-true _ _ (not-false _ same-given);
          out_length = eqb-true _ _ (not-false _ same_out);
        }

-- a record that is good for n boxes is good for more
bad_more : (n m : ℕ) (q : Rec) → n ≤ m → bad n q ≡ false → bad m q ≡ false
unfolding bad
bad_more n m q h e = ap reasons (fewer ∙ sym none) ∙ e
  where
    reasons : Bool → Bool
    reasons past =
        no_kind (kind_of q.kind)
        || not (eqb q.byte1 0)
        || past
        || (lacks_z (kind_of q.kind) && not (eqb q.z 65535))
        || two_equal (boxes_of q)

    none : any (leb n) (boxes_of q) ≡ false
    none = or_false_right (no_kind (kind_of q.kind) || not (eqb q.byte1 0)) _ (or_false_left _ _ (or_false_left _ _ e))

    fewer : any (leb m) (boxes_of q) ≡ false
    fewer =
        false_T _
        (λ t.
        let found = any_member (leb m) (boxes_of q) t in
        subst T none (any_of (leb n) found.1 (le→leb n found.0 (omega (arith, leb→le m found.0 found.2)))))

-- so tables that are accepted with some boxes are accepted with 256
pub accepted_all : {n : ℕ} {maker depot : List ℕ} → Accepted n maker depot → Accepted 256 maker depot
accepted_all {n} {maker} {depot} tables =
    record {
      boxes = omega arith;
      whole = tables.whole;
      count = tables.count;
      good = λ r l. bad_more n 256 (record_at maker depot r) tables.boxes (tables.good r l);
    }
