-- Fill on a call in form: 7 exactly on a clash; else the number of boxes filled, and the filled sheet.
-- Assumes nothing.
use mathlib.Core.Path.{◌≡◌, sym, ap, subst⁻¹, ◌∙◌}
use mathlib.Core.Logic.{◌↔◌}
use mathlib.Core.Bool.{Bool, true, false}
use mathlib.Core.List.{List}
use Prim.Native.Nat.{ℕ}
use lib.Dec.{T}
use lib.ListN.{length, get_or}
use Rattle.spec.specs.Records.{rules_in}
use Rattle.spec.specs.Facts.{Clash, holds}
use Rattle.spec.specs.Refusals.{Said, answered, passed, judge, written, order_checks}
use Rattle.spec.specs.Fill.{closure_of, boxes_filled, fill_judges, fill_says, fill_writes}
use Rattle.spec.proofs.Judge.{judge_passed}
use Rattle.spec.proofs.Named.{within_good}
use Rattle.spec.proofs.Firing.{run_rest}
use Rattle.spec.proofs.Ends.{fact_list, run_starts, run_ends}
use Rattle.spec.proofs.Accepted.{AcceptedSheet, order_accepted}
use Rattle.theory.specs.Steps.{Grown}
use Rattle.theory.proofs.States.{state_of, sheet_codes, holds_state, state_holds, open_none, none_open}
use Rattle.theory.proofs.Measure.{grown_kept}
use Rattle.theory.proofs.Numbered.{rules_good}
use Rattle.theory.proofs.Filling.{codes_exact, fill_clash, fill_seven, fill_filled}
use Rattle.claims.specs.Demands.{Derived, SomeClash, IsFilled, FillAgrees}
use Rattle.claims.proofs.Unbroken.{codes_grown, full_unbroken}

-- without a clash the closure's codes are the filled sheet
module _ (maker depot sheet : List ℕ) (known : AcceptedSheet (length sheet) maker depot sheet)
    (none : (b : ℕ) → Clash (rules_in maker depot) sheet b → ⊥) where
  abbrev codes : List ℕ
  codes = closure_of maker depot sheet

  grown : Grown (rules_in maker depot) sheet codes
  grown = codes_grown maker depot sheet known none

  exact : (b : ℕ) (state : Bool) → T (holds codes b state) ↔ Derived maker depot sheet b state
  exact = codes_exact maker depot sheet known

  state_fact : (b : ℕ) (state : Bool) → (get_or codes b 2 ≡ state_of state) ↔ Derived maker depot sheet b state
  state_fact b state = (
    λ e. (exact b state).0 (state_holds codes b state e),
    λ h. holds_state codes b grown.sheet state ((exact b state).1 h),
  )

  neither : (b : ℕ) → (Derived maker depot sheet b false → ⊥) × (Derived maker depot sheet b true → ⊥) →
      (state : Bool) → T (holds codes b state) → ⊥
  neither b h false t = h.0 ((exact b false).0 t)
  neither b h true t = h.1 ((exact b true).0 t)

  codes_filled : IsFilled maker depot sheet codes
  codes_filled =
      record {
        size = grown.size;
        is_out = λ b. state_fact b false;
        is_in = λ b. state_fact b true;
        is_open = λ b. (
          λ e. (λ h. none_open codes b e false ((exact b false).1 h), λ h. none_open codes b e true ((exact b true).1 h)),
          λ h. open_none codes b (sheet_codes codes grown.sheet) (neither b h),
        );
        kept = grown_kept grown known.sheet_bytes;
      }

module _ (maker depot sheet out : List ℕ) (passes : judge (order_checks maker depot sheet out) passed ≡ passed) where
  known : AcceptedSheet (length sheet) maker depot sheet
  known = (order_accepted maker depot sheet out passes).order

  -- the form has passed, so what is said is Fill's own
  pub said_own : fill_says maker depot sheet out ≡ fill_judges maker depot sheet
  unfolding fill_says
  said_own = judge_passed (order_checks maker depot sheet out) (fill_judges maker depot sheet) passes

  module _ (none : SomeClash maker depot sheet → ⊥) where
    no_clash : (b : ℕ) → Clash (rules_in maker depot) sheet b → ⊥
    no_clash b both = none (b, both)

    pub counted : fill_says maker depot sheet out ≡ answered (boxes_filled sheet (closure_of maker depot sheet))
    counted = said_own ∙ fill_filled maker depot sheet no_clash (full_unbroken maker depot sheet known no_clash)

    pub wrote : fill_writes maker depot sheet out ≡ closure_of maker depot sheet
    unfolding fill_writes
    wrote = ap (λ (s : Said ℕ). written s (closure_of maker depot sheet) out) counted

  pub fill_agrees : FillAgrees maker depot sheet out
  fill_agrees =
      record {
        clash = (λ e. fill_seven maker depot sheet known (sym said_own ∙ e), λ found. said_own ∙ fill_clash maker depot sheet known found.1);
        number = λ none. rw (wrote none) (counted none);
        filled = λ none. subst⁻¹ (IsFilled maker depot sheet) (wrote none) (codes_filled maker depot sheet known (no_clash none));
        order = λ fs run rest. run_rest run rest;
        rests =
            let end = run_ends (rules_in maker depot) sheet (sheet_codes sheet known.sheet_bytes)
            (within_good (length sheet) (rules_in maker depot) (rules_good maker depot known.tables))
            (fact_list sheet) (run_starts (rules_in maker depot) sheet) in
            (end.facts, end.run, end.has);
      }
