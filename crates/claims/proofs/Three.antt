-- Demand 3: First, and then Next after each list handed out, until none.
-- Assumes nothing.
use mathlib.Core.Path.{◌≡◌, refl, sym, subst}
use mathlib.Core.Bool.{Bool, true, false}
use mathlib.Core.List.Memᴰ
use mathlib.Core.List.{List, [], ◌∷◌, Memᴰ}
use Prim.Native.Nat.{ℕ}
use native.Mathlib.Omega.{arith}
use lib.ListN.{length}
use Rattle.lemmas.proofs.Ascending.{ascends_once}
use Rattle.spec.specs.Records.{rules_in}
use Rattle.spec.specs.Refusals.{reason, refused, sheet_checks, order_checks, next_checks}
use Rattle.spec.specs.Kits.{before, is_none, none_check, hands_out, kits, kits_after, first_says, next_says}
use Rattle.spec.proofs.Judge.{refused_answered}
use Rattle.kits.specs.Kit.{Kit}
use Rattle.kits.proofs.Order.{before_irrefl}
use Rattle.kits.proofs.Kits.{kits_in_order, after_in_order}
use Rattle.kits.proofs.Runs.{asked_same, asked_kits}
use Rattle.claims.specs.Demands.{DemandThree}
use Rattle.claims.proofs.Refusing.{form_passes, said_after}
use Rattle.claims.proofs.Nine.{clash_first, clash_next}
use Rattle.claims.proofs.One.{order_numbers, next_numbers}

-- 9 is said of no lists alone
nine_none : (ls : List (List ℕ)) → hands_out ls ≡ refused (reason 9 0) → ls ≡ []
unfolding none_check is_none
nine_none [] e = refl
nine_none (l ∷ ls) e = absurd (refused_answered (sym e))

module _ (maker depot sheet : List ℕ) where
  first_nine : (out : List ℕ) → first_says maker depot sheet out ≡ refused (reason 9 0) → kits maker depot sheet ≡ []
  unfolding first_says
  first_nine out e =
      nine_none (kits maker depot sheet)
      (said_after (order_checks maker depot sheet out) (hands_out (kits maker depot sheet)) (order_numbers maker depot sheet out) (reason 9 0) (omega arith) e)

  next_nine : (given out : List ℕ) → next_says maker depot sheet given out ≡ refused (reason 9 0) → kits_after maker depot sheet given ≡ []
  unfolding next_says
  next_nine given out e =
      nine_none (kits_after maker depot sheet given)
      (said_after (next_checks maker depot sheet given out) (hands_out (kits_after maker depot sheet given))
      (next_numbers maker depot sheet given out) (reason 9 0) (omega arith) e)

  none_left : (out : List ℕ) → first_says maker depot sheet out ≡ refused (reason 9 0) →
      (l : List ℕ) → Kit (rules_in maker depot) (length sheet) sheet l → ⊥
  none_left out e l kit =
      Memᴰ.not-nil (subst (Memᴰ l) (first_nine out e) (((kits_in_order maker depot sheet).exactly l).1 kit))

  none_after : (given out : List ℕ) → next_says maker depot sheet given out ≡ refused (reason 9 0) →
      (l : List ℕ) → Kit (rules_in maker depot) (length sheet) sheet l → before given l ≡ false
  none_after given out e l kit = go (before given l) refl
    where
      go : (t : Bool) → before given l ≡ t → t ≡ false
      go true later =
          absurd
          (Memᴰ.not-nil
          (subst (Memᴰ l) (next_nine given out e)
          (((after_in_order maker depot sheet given).exactly l).1 (record { kit = kit; later = later }))))
      go false later = refl

pub demand_three : (maker depot sheet : List ℕ) (lent : ℕ → List ℕ) → DemandThree maker depot sheet lent
demand_three maker depot sheet lent =
    record {
      ends = λ (form, long). asked_kits maker depot sheet lent (form_passes (sheet_checks maker depot sheet) form) long;
      only = λ (form, long) ls run.
          asked_same run (asked_kits maker depot sheet lent (form_passes (sheet_checks maker depot sheet) form) long);
      exactly = (kits_in_order maker depot sheet).exactly;
      once = ascends_once before before_irrefl (kits maker depot sheet) (kits_in_order maker depot sheet).ascends;
      ascending = (kits_in_order maker depot sheet).ascends;
      first_none = none_left maker depot sheet;
      next_none = none_after maker depot sheet;
      first_clash = λ out form. clash_first maker depot sheet out (form_passes (order_checks maker depot sheet out) form);
      next_clash = λ given out form. clash_next maker depot sheet out given (form_passes (next_checks maker depot sheet given out) form);
    }
