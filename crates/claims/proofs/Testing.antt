-- What Test says of a call in form, by the truth tables.
-- Assumes nothing.
use mathlib.Core.Path.{◌≡◌, refl, sym, subst, ◌∙◌}
use mathlib.Core.Bool.{Bool, true, false, true≢false, cond, ◌&&◌}
use mathlib.Core.List.{List}
use Prim.Native.Nat.{ℕ, ◌≤◌, ◌<◌}
use native.Mathlib.Omega.{arith}
use borrow.Author.Tests.{ltb-false, lt-ltb, le-ltb}
use lib.Dec.{ltb}
use Rattle.lemmas.proofs.Lowest.{lowest_none, lowest_at, lowest_below, lowest_found}
use Rattle.spec.specs.Records.{record_at, record_count}
use Rattle.spec.specs.Refusals.{answered, passed, judge}
use Rattle.spec.specs.Fits.{breaks, is_broken, first_broken, fits, broken, test_checks, test_judges, test_says}
use Rattle.spec.proofs.Judge.{judge_passed}
use Rattle.spec.proofs.Broken.{tested_broken}
use Rattle.theory.proofs.Numbered.{number_rule, every_rule}
use Rattle.claims.specs.Demands.{EveryRuleTrue, LowestFalse, TestAgrees}

-- a record that is a rule is broken exactly when it is false
rule_broken : (rule false' : Bool) → (rule && false') ≡ true → (rule ≡ true) × (false' ≡ true)
rule_broken true false' e = (refl, e)
rule_broken false false' e = absurd (true≢false (sym e))

rule_unbroken : (rule false' : Bool) → (rule ≡ true → false' ≡ false) → (rule && false') ≡ false
rule_unbroken true false' h = h refl
rule_unbroken false false' h = refl

unbroken_rule : (rule false' : Bool) → (rule && false') ≡ false → rule ≡ true → false' ≡ false
unbroken_rule true false' e is = e
unbroken_rule false false' e is = absurd (true≢false (sym is))

-- where it is said that the list fits, no record is broken
said_fits : (count first : ℕ) → answered (cond (ltb first count) (broken first) fits) ≡ answered fits → count ≤ first
said_fits count first e = go (ltb first count) refl e
  where
    go : (t : Bool) → ltb first count ≡ t → answered (cond t (broken first) fits) ≡ answered fits → count ≤ first
    go true known e = let z : ◌≡◌ {A = ℕ} 0 1 = cc in absurd (omega arith)
    go false known e = ltb-false first count known

module _ (maker depot l : List ℕ) where
  -- the first broken record is the lowest that is a rule and false
  first_lowest : first_broken maker depot l < record_count maker depot → LowestFalse maker depot l (first_broken maker depot l)
  unfolding first_broken is_broken
  first_lowest less =
      let found = lowest_found (λ r. is_broken l (record_at maker depot r)) (record_count maker depot) less in
      let both = rule_broken _ _ found.0 in
      record {
        below = less;
        is_rule_lem = both.0;
        is_false = both.1;
        lowest = λ j lower is. unbroken_rule _ _ (found.1 j lower) is;
      }

  lowest_first : (r : ℕ) → LowestFalse maker depot l r → first_broken maker depot l ≡ r
  unfolding first_broken is_broken
  lowest_first r h =
      lowest_at (λ j. is_broken l (record_at maker depot j)) (record_count maker depot) r h.below
      (rw (h.is_rule_lem, h.is_false))
      (λ j lower. rule_unbroken _ _ (h.lowest j lower))

  -- there is none exactly where every rule is true
  pub true_unbroken : EveryRuleTrue maker depot l → first_broken maker depot l ≡ record_count maker depot
  unfolding first_broken is_broken
  true_unbroken all_true =
      lowest_none (λ r. is_broken l (record_at maker depot r)) (record_count maker depot)
      (λ r less. rule_unbroken _ _ (λ is. all_true (record_at maker depot r) (number_rule maker depot less is)))

  unbroken_true : record_count maker depot ≤ first_broken maker depot l → EveryRuleTrue maker depot l
  unfolding first_broken is_broken
  unbroken_true past =
      every_rule maker depot (λ q. breaks l q ≡ false)
      (λ r less is. unbroken_rule _ _ (lowest_below (λ j. is_broken l (record_at maker depot j)) (record_count maker depot) r past less) is)

  module _ (passes : judge (test_checks maker depot l) passed ≡ passed) where
    -- the form has passed, so what is said is Test's own
    said_own : test_says maker depot l ≡ test_judges maker depot l
    unfolding test_says
    said_own = judge_passed (test_checks maker depot l) (test_judges maker depot l) passes

    fits_where : test_says maker depot l ≡ answered fits → EveryRuleTrue maker depot l
    unfolding test_judges
    fits_where e = unbroken_true (said_fits (record_count maker depot) (first_broken maker depot l) (sym said_own ∙ e))

    where_fits : EveryRuleTrue maker depot l → test_says maker depot l ≡ answered fits
    unfolding test_judges
    where_fits h = said_own ∙ rw (le-ltb (first_broken maker depot l) (record_count maker depot) (omega (arith, true_unbroken h)))

    named_where : (r : ℕ) → test_says maker depot l ≡ answered (broken r) → LowestFalse maker depot l r
    unfolding test_judges
    named_where r e =
        let said = tested_broken (record_count maker depot) (first_broken maker depot l) r (sym said_own ∙ e) in
        subst (LowestFalse maker depot l) said.0 (first_lowest said.1)

    where_named : (r : ℕ) → LowestFalse maker depot l r → test_says maker depot l ≡ answered (broken r)
    unfolding test_judges
    where_named r h =
        said_own
        ∙ rw (lowest_first r h, lt-ltb r (record_count maker depot) h.below)

    pub test_agrees : TestAgrees maker depot l
    test_agrees = record { fits_true = (fits_where, where_fits); names_false = λ r. (named_where r, where_named r) }
