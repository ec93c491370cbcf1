-- The checker, on tables and a sheet in form: 10, 11 at the first wrong line, or it accepts; and a list that it accepts holds facts alone.
-- Assumes nothing.
use mathlib.Core.Path.{◌≡◌, refl, sym, ap, subst, ◌∙◌}
use mathlib.Core.Logic.{◌↔◌}
use mathlib.Core.Bool.{Bool, true, cond, not}
use mathlib.Core.List.{List}
use Prim.Native.Nat.{ℕ, ◌%◌, ◌≤◌, ◌<◌}
use native.Mathlib.Omega.{arith}
use native.Mathlib.Decide.{ℕ_discrete, dec_lt}
use borrow.Author.Tests.{eq-eqb, ne_eqb, lt-ltb, le-ltb, not-true, not-false}
use lib.Dec.{ltb, eqb}
use lib.ListN.{length}
use Rattle.lemmas.specs.Lowest.{lowest}
use Rattle.lemmas.proofs.Lowest.{lowest_none, lowest_at, lowest_below, lowest_found}
use Rattle.spec.specs.Refusals.{Refusal, reason, place_of, number_of, Said, refused, passed, judge, sheet_checks}
use Rattle.spec.proofs.Judge.{refused_answered, judge_passed, judge_reached}
use Rattle.whylists.specs.Lines.{says_in, line_at, line_count, right}
use Rattle.whylists.specs.Says.{length_check, lines_check, why_check_judges, why_check_says}
use Rattle.whylists.proofs.Known.{is_right}
use Rattle.whylists.proofs.Sound.{right_sound}
use Rattle.claims.specs.Demands.{Derived}
use Rattle.claims.specs.Why.{FirstWrong, CheckAgrees}

module _ (maker depot sheet l : List ℕ) where
  abbrev wrong : ℕ → Bool
  wrong k = not (right maker depot sheet l k)

  abbrev first : ℕ
  first = lowest wrong (line_count l)

  -- what is said, by its two tests
  abbrev said : (whole found : Bool) → Said (Unit {0})
  said whole found = cond (not whole) (refused (reason 10 0)) (cond found (refused (reason 11 first)) passed)

  says_both : why_check_judges maker depot sheet l ≡ said (eqb (length l % 8) 0) (ltb first (line_count l))
  unfolding why_check_judges length_check lines_check
  says_both = refl

  -- every line is right, or there is a first wrong one
  abbrev AllRight : Type 0
  AllRight = (k : ℕ) → k < line_count l → right maker depot sheet l k ≡ true

  found_first : first < line_count l → FirstWrong maker depot sheet l first
  found_first h =
      let found = lowest_found wrong (line_count l) h in
      record {
        below = h;
        wrong = not-true (right maker depot sheet l first) found.0;
        above = λ j less. not-false (right maker depot sheet l j) (found.1 j less);
      }

  first_is : {k : ℕ} → FirstWrong maker depot sheet l k → first ≡ k
  first_is {k} f = lowest_at wrong (line_count l) k f.below (rw f.wrong) (λ j less. rw (f.above j less))

  none_wrong : line_count l ≤ first → AllRight
  none_wrong h k below = not-false (right maker depot sheet l k) (lowest_below wrong (line_count l) k h below)

  all_first : AllRight → first ≡ line_count l
  all_first rights = lowest_none wrong (line_count l) (λ k h. rw (rights k h))

  data Case : Type 0 where
    ragged : (length l % 8 ≡ 0 → ⊥) → why_check_judges maker depot sheet l ≡ refused (reason 10 0) → Case
    bad : length l % 8 ≡ 0 → first < line_count l → why_check_judges maker depot sheet l ≡ refused (reason 11 first) → Case
    good : length l % 8 ≡ 0 → line_count l ≤ first → why_check_judges maker depot sheet l ≡ passed → Case

  which : Case
  which = at (ℕ_discrete (length l % 8) 0) (dec_lt first (line_count l))
    where
      at : Dec (length l % 8 ≡ 0) → Dec (first < line_count l) → Case
      at (no e) d = ragged e (says_both ∙ rw (ne_eqb (length l % 8) 0 e))
      at (yes e) (yes h) = bad e h (says_both ∙ rw (eq-eqb (length l % 8) 0 e, lt-ltb first (line_count l) h))
      at (yes e) (no h) =
          let past : line_count l ≤ first = omega arith in
          good e past (says_both ∙ rw (eq-eqb (length l % 8) 0 e, le-ltb first (line_count l) past))

  -- two refusals that are said alike are alike
  same_why : {why' why'' : Refusal} → why_check_judges maker depot sheet l ≡ refused why' → why_check_judges maker depot sheet l ≡ refused why'' → why' ≡ why''
  same_why {why'} {why''} e e' = let both : ◌≡◌ {A = Said (Unit {0})} (refused why') (refused why'') = sym e ∙ e' in cc

  says_ten : (why_check_judges maker depot sheet l ≡ refused (reason 10 0)) ↔ (length l % 8 ≡ 0 → ⊥)
  says_ten = (λ e. forth which e, λ e. back which e)
    where
      forth : Case → why_check_judges maker depot sheet l ≡ refused (reason 10 0) → length l % 8 ≡ 0 → ⊥
      forth (ragged not is) e = not
      forth (bad whole h is) e = absurd (omega (arith, ap number_of (same_why is e)))
      forth (good whole h is) e = absurd (refused_answered (sym e ∙ is))

      back : Case → (length l % 8 ≡ 0 → ⊥) → why_check_judges maker depot sheet l ≡ refused (reason 10 0)
      back (ragged not is) e = is
      back (bad whole h is) e = absurd (e whole)
      back (good whole h is) e = absurd (e whole)

  says_eleven : (k : ℕ) → (why_check_judges maker depot sheet l ≡ refused (reason 11 k)) ↔ ((length l % 8 ≡ 0) × FirstWrong maker depot sheet l k)
  says_eleven k = (λ e. forth which e, λ e. back which e)
    where
      forth : Case → why_check_judges maker depot sheet l ≡ refused (reason 11 k) → (length l % 8 ≡ 0) × FirstWrong maker depot sheet l k
      forth (ragged not is) e = absurd (omega (arith, ap number_of (same_why is e)))
      forth (bad whole h is) e = (whole, subst (FirstWrong maker depot sheet l) (ap place_of (same_why is e)) (found_first h))
      forth (good whole h is) e = absurd (refused_answered (sym e ∙ is))

      back : Case → (length l % 8 ≡ 0) × FirstWrong maker depot sheet l k → why_check_judges maker depot sheet l ≡ refused (reason 11 k)
      back (ragged not is) (whole, f) = absurd (not whole)
      back (bad whole' h is) (whole, f) = is ∙ ap (λ (j : ℕ). refused (reason 11 j)) (first_is f)
      back (good whole' h is) (whole, f) = absurd (omega (arith, first_is f, f.below, h))

  says_right : (why_check_judges maker depot sheet l ≡ passed) ↔ ((length l % 8 ≡ 0) × AllRight)
  says_right = (λ e. forth which e, λ e. back which e)
    where
      forth : Case → why_check_judges maker depot sheet l ≡ passed → (length l % 8 ≡ 0) × AllRight
      forth (ragged not is) e = absurd (refused_answered (sym is ∙ e))
      forth (bad whole h is) e = absurd (refused_answered (sym is ∙ e))
      forth (good whole h is) e = (whole, none_wrong h)

      back : Case → (length l % 8 ≡ 0) × AllRight → why_check_judges maker depot sheet l ≡ passed
      back (ragged not is) (whole, rights) = absurd (not whole)
      back (bad whole' h is) (whole, rights) = absurd (omega (arith, all_first rights, h))
      back (good whole' h is) (whole, rights) = is

  pub check_agrees : judge (sheet_checks maker depot sheet) passed ≡ passed → CheckAgrees maker depot sheet l
  unfolding why_check_says
  check_agrees passes =
      let own = judge_passed (sheet_checks maker depot sheet) (why_check_judges maker depot sheet l) passes in
      record { ten = rw own says_ten; eleven = λ k. rw own (says_eleven k); accepts = rw own says_right }

  pub check_facts : why_check_says maker depot sheet l ≡ passed → (k : ℕ) → k < line_count l →
      Derived maker depot sheet (line_at l k).box (says_in (line_at l k))
  unfolding why_check_says
  check_facts e k h =
      let rights = (says_right.0 (judge_reached (sheet_checks maker depot sheet) (why_check_judges maker depot sheet l) e).1).1 in
      right_sound maker depot sheet l k (λ i less. is_right maker depot sheet l i (rights i (omega arith)))
