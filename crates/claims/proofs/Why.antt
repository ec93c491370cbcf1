-- Request 2026-01 holds of all tables, sheets, lists and buffers.
-- Assumes nothing.
use mathlib.Core.List.{List}
use mathlib.Core.List.{[], ◌∷◌}
use Prim.Native.Nat.{ℕ, ◌*◌}
use native.Mathlib.Omega.{arith}
use lib.ListN.{length}
use Rattle.spec.specs.Refusals.{answered, passed, judge, sheet_checks, order_checks, out_check}
use Rattle.spec.specs.Fill.{closure_of, clash_check}
use Rattle.whylists.specs.Ours.{ours}
use Rattle.whylists.specs.Says.{why_checks, why_judges, why_says, length_check, lines_check, why_check_judges, why_check_says}
use Rattle.whylists.proofs.Kept.{why_kept}
use Rattle.whylists.proofs.Explained.{above_alone}
use Rattle.claims.specs.Why.{WhyLists}
use Rattle.claims.proofs.Refusing.{of_form, EachOfForm, each_append, AfterForm, refuses_by, form_passes}
use Rattle.claims.proofs.One.{sheet_numbers, after_check, after_answer}
use Rattle.claims.proofs.Words.{words_agree}
use Rattle.claims.proofs.Checker.{check_agrees, check_facts}
use Rattle.claims.proofs.Maker.{says_alike, list_explains}

why_numbers : (maker depot sheet out : List ℕ) → EachOfForm (why_checks maker depot sheet out)
unfolding out_check
why_numbers maker depot sheet out =
    each_append (sheet_checks maker depot sheet) (out_check (8 * length sheet) out ∷ [])
    (sheet_numbers maker depot sheet)
    (of_form (out_check (8 * length sheet) out) tt, tt)

-- what comes after them is an answer, or 7, 10 or 11
why_after : (maker depot sheet : List ℕ) → AfterForm (why_judges maker depot sheet)
unfolding why_judges clash_check
why_after maker depot sheet =
    after_check (clash_check (closure_of maker depot sheet)) (omega arith) (answered (length (ours maker depot sheet))) (after_answer (length (ours maker depot sheet)))

why_check_after : (maker depot sheet l : List ℕ) → AfterForm (why_check_judges maker depot sheet l)
unfolding why_check_judges length_check lines_check
why_check_after maker depot sheet l =
    after_check (length_check l) (omega arith) (judge (lines_check maker depot sheet l ∷ []) passed)
    (after_check (lines_check maker depot sheet l) (omega arith) passed (after_answer tt))

pub why_lists : (maker depot sheet l out : List ℕ) → WhyLists maker depot sheet l out
unfolding why_says why_check_says
why_lists maker depot sheet l out =
    record {
      why =
          refuses_by (why_checks maker depot sheet out) (why_judges maker depot sheet)
          (why_numbers maker depot sheet out) (why_after maker depot sheet);
      why_check =
          refuses_by (sheet_checks maker depot sheet) (why_check_judges maker depot sheet l)
          (sheet_numbers maker depot sheet) (why_check_after maker depot sheet l);
      why_leaves = λ why. why_kept maker depot sheet out why;
      words = words_agree maker depot sheet l;
      above = λ m. above_alone maker depot sheet l m;
      check = λ form. check_agrees maker depot sheet l (form_passes (sheet_checks maker depot sheet) form);
      facts = check_facts maker depot sheet l;
      as_fill = λ form filled form'.
          says_alike maker depot sheet out filled (form_passes (why_checks maker depot sheet out) form) (form_passes (order_checks maker depot sheet filled) form');
      explains = list_explains maker depot sheet out;
    }
