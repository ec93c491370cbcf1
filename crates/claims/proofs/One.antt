-- Demand 1: bad ones are refused by the first check that applies, Show by the empty part, and a refusal writes nothing.
-- Assumes nothing.
use mathlib.Core.Path.{◌≡◌, sym, ap}
use mathlib.Core.Bool.{Bool, true, false, cond}
use mathlib.Core.List.{List, [], ◌∷◌}
use Prim.Native.Nat.{ℕ, ◌<◌}
use native.Mathlib.Omega.{arith}
use lib.ListN.{length}
use Rattle.spec.specs.Refusals.{Refusal, number_of, Said, refused, answered, Check, judge, table_checks, sheet_checks, order_checks, next_checks}
use Rattle.spec.specs.Refusals.{boxes_check, maker_check, depot_check, count_check, record_check, sheet_check, given_check, out_check, list_check}
use Rattle.spec.specs.Fits.{part_for, test_checks, test_judges, test_says, shows_part}
use Rattle.spec.specs.Fill.{closure_of, boxes_filled, clash_check, broken_check, fill_judges, fill_says}
use Rattle.spec.specs.Kits.{none_check, handed_out, hands_out, kits, kits_after, first_says, next_says}
use Rattle.spec.proofs.Judge.{refused_answered}
use Rattle.spec.proofs.Kept.{fill_kept, first_kept, next_kept}
use Rattle.claims.specs.Demands.{empty_part, DemandOne}
use Rattle.claims.proofs.Refusing.{of_form, EachOfForm, each_append, AfterForm, refuses_by}

-- the checks of form have the numbers 1 to 6
table_numbers : (n : ℕ) (maker depot : List ℕ) → EachOfForm (table_checks n maker depot)
unfolding boxes_check maker_check depot_check count_check record_check
table_numbers n maker depot = (
  of_form (boxes_check n) tt,
  (of_form (maker_check maker) tt, (of_form (depot_check depot) tt, (of_form (count_check maker depot) tt, (of_form (record_check n maker depot) tt, tt)))),
)

test_numbers : (maker depot l : List ℕ) → EachOfForm (test_checks maker depot l)
unfolding list_check
test_numbers maker depot l =
    each_append (table_checks (length l) maker depot) (list_check l ∷ []) (table_numbers (length l) maker depot) (of_form (list_check l) tt, tt)

pub sheet_numbers : (maker depot sheet : List ℕ) → EachOfForm (sheet_checks maker depot sheet)
unfolding sheet_check
sheet_numbers maker depot sheet =
    each_append (table_checks (length sheet) maker depot) (sheet_check sheet ∷ [])
    (table_numbers (length sheet) maker depot)
    (of_form (sheet_check sheet) tt, tt)

pub order_numbers : (maker depot sheet out : List ℕ) → EachOfForm (order_checks maker depot sheet out)
unfolding out_check
order_numbers maker depot sheet out =
    each_append (sheet_checks maker depot sheet) (out_check (length sheet) out ∷ [])
    (sheet_numbers maker depot sheet)
    (of_form (out_check (length sheet) out) tt, tt)

pub next_numbers : (maker depot sheet given out : List ℕ) → EachOfForm (next_checks maker depot sheet given out)
unfolding given_check out_check list_check
next_numbers maker depot sheet given out =
    each_append (sheet_checks maker depot sheet) (given_check (length sheet) given ∷ out_check (length sheet) out ∷ list_check given ∷ [])
    (sheet_numbers maker depot sheet)
    (of_form (given_check (length sheet) given) tt, (of_form (out_check (length sheet) out) tt, (of_form (list_check given) tt, tt)))

-- one more check before it, whose number is none of form
pub after_check : {A : Type 0} (c : Check) → 6 < number_of c.why → (rest : Said A) → AfterForm rest → AfterForm (judge (c ∷ []) rest)
after_check c large rest h why small = go c.when
  where
    go : (t : Bool) → cond t (refused c.why) rest ≡ refused why → ⊥
    go true e = let same : c.why ≡ why = cc in omega (arith, ap number_of same)
    go false e = h why small e

pub after_answer : {A : Type 0} (answer : A) → AfterForm (answered answer)
after_answer answer why small e = refused_answered (sym e)

-- what comes after them is an answer, or 7, 8 or 9
test_after : (maker depot l : List ℕ) → AfterForm (test_judges maker depot l)
unfolding test_judges
test_after maker depot l = after_answer _

fill_after : (maker depot sheet : List ℕ) → AfterForm (fill_judges maker depot sheet)
unfolding fill_judges clash_check broken_check
fill_after maker depot sheet =
    after_check (clash_check codes) (omega arith) (judge (broken_check maker depot codes ∷ []) (answered filled))
    (after_check (broken_check maker depot codes) (omega arith) (answered filled) (after_answer filled))
  where
    codes : List ℕ
    codes = closure_of maker depot sheet

    filled : ℕ
    filled = boxes_filled sheet codes

hands_after : (ls : List (List ℕ)) → AfterForm (hands_out ls)
unfolding none_check
hands_after ls = after_check (none_check ls) (omega arith) handed_out (after_answer tt)

shows_nothing : (maker depot l : List ℕ) (why : Refusal) → test_says maker depot l ≡ refused why → shows_part maker depot l ≡ empty_part
unfolding shows_part
shows_nothing maker depot l why e = ap (part_for maker) e

pub demand_one : (maker depot sheet l out : List ℕ) → DemandOne maker depot sheet l out
unfolding test_says fill_says first_says next_says
demand_one maker depot sheet l out =
    record {
      test = refuses_by (test_checks maker depot l) (test_judges maker depot l) (test_numbers maker depot l) (test_after maker depot l);
      fill =
          refuses_by (order_checks maker depot sheet out) (fill_judges maker depot sheet)
          (order_numbers maker depot sheet out) (fill_after maker depot sheet);
      first =
          refuses_by (order_checks maker depot sheet out) (hands_out (kits maker depot sheet))
          (order_numbers maker depot sheet out) (hands_after (kits maker depot sheet));
      next =
          refuses_by (next_checks maker depot sheet l out) (hands_out (kits_after maker depot sheet l))
          (next_numbers maker depot sheet l out) (hands_after (kits_after maker depot sheet l));
      show = shows_nothing maker depot l;
      fill_leaves = fill_kept maker depot sheet out;
      first_leaves = first_kept maker depot sheet out;
      next_leaves = λ why. next_kept maker depot sheet out why l;
    }
