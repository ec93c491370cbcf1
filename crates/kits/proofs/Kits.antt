-- `kits` writes down the kits of a sheet in order, and `kits_after` those strictly after the given list.
-- Assumes nothing.
use mathlib.Core.Path.{◌≡◌}
use mathlib.Core.Logic.{◌⊎◌, inl, inr}
use mathlib.Core.Bool.{Bool, false, not, ◌&&◌, ◌||◌}
use mathlib.Core.List.{List, Memᴰ}
use Prim.Native.Nat.{ℕ, ◌<◌}
use native.Mathlib.Decide.{ℕ_discrete}
use borrow.Author.Tests.{eq-eqb}
use lib.Dec.{T, T_not, not_T, eqb, eqb→eq}
use lib.ListN.{length, get_or}
use Rattle.lemmas.specs.Lists.{any, upto}
use Rattle.lemmas.proofs.Tests.{T_true, true_T, false_T, both_left, both_right, both_of, or_cases, or_left, or_right}
use Rattle.lemmas.proofs.Members.{all_member, all_of, any_member, any_of, upto_member, member_upto}
use Rattle.spec.specs.Records.{Rec, rules_in}
use Rattle.spec.specs.Fits.{breaks}
use Rattle.spec.specs.Kits.{before, keeps, fits_all, kits, kits_after, is_none, head_of}
use Rattle.kits.specs.Order.{AnswerTo}
use Rattle.kits.specs.Kit.{IsFull, FirstAsks, NextAsks}
use Rattle.kits.proofs.Answers.{InOrder, in_order_those, in_order_answers}
use Rattle.kits.proofs.FullLists.{full_in_order}

module _ (sheet l : List ℕ) where
  -- the box is open, or the list has the sheet's state there
  abbrev is_open : ℕ → Bool
  is_open b = eqb (get_or sheet b 2) 2

  abbrev is_same : ℕ → Bool
  is_same b = eqb (get_or l b 2) (get_or sheet b 2)

  abbrev Keeps : Type 0
  Keeps = (b : ℕ) → b < length sheet → (get_or sheet b 2 ≡ 2 → ⊥) → get_or l b 2 ≡ get_or sheet b 2

  keeps_means : T (keeps sheet l) → Keeps
  unfolding keeps
  keeps_means t b i settled = go (or_cases (is_open b) (is_same b) (all_member (λ b. is_open b || is_same b) t (upto_member i)))
    where
      go : T (is_open b) ⊎ T (is_same b) → get_or l b 2 ≡ get_or sheet b 2
      go (inl u) = absurd (settled (eqb→eq (get_or sheet b 2) 2 u))
      go (inr u) = eqb→eq (get_or l b 2) (get_or sheet b 2) u

  means_keeps : Keeps → T (keeps sheet l)
  unfolding keeps
  means_keeps h =
      all_of (λ b. is_open b || is_same b) (upto (length sheet))
      (λ b m. go b (h b (member_upto (length sheet) m)) (ℕ_discrete (get_or sheet b 2) 2))
    where
      go : (b : ℕ) → ((get_or sheet b 2 ≡ 2 → ⊥) → get_or l b 2 ≡ get_or sheet b 2) → Dec (get_or sheet b 2 ≡ 2) → T (is_open b || is_same b)
      go b h (yes e) = or_left (is_open b) (is_same b) (T_true (eq-eqb _ _ e))
      go b h (no e) = or_right (is_open b) (is_same b) (T_true (eq-eqb _ _ (h e)))

module _ (maker depot : List ℕ) where
  abbrev FitsAll : List ℕ → Type 0
  FitsAll l = (q : Rec) → Memᴰ q (rules_in maker depot) → breaks l q ≡ false

  fits_means : (l : List ℕ) → T (fits_all maker depot l) → FitsAll l
  unfolding fits_all
  fits_means l t q m = false_T (breaks l q) (λ u. T_not (any (breaks l) (rules_in maker depot)) t (any_of (breaks l) m u))

  means_fits : (l : List ℕ) → FitsAll l → T (fits_all maker depot l)
  unfolding fits_all
  means_fits l h =
      not_T (any (breaks l) (rules_in maker depot))
      (λ u. let r = any_member (breaks l) (rules_in maker depot) u in rw (h r.0 r.1) at r.2)

  module _ (sheet : List ℕ) where
    -- the computed test of a full list
    abbrev is_kit : List ℕ → Bool
    is_kit l = keeps sheet l && fits_all maker depot l

    is_kit_lem : (l : List ℕ) → IsFull (length sheet) l × T (is_kit l) → FirstAsks maker depot sheet l
    is_kit_lem l h =
        record {
          full = h.0;
          keeps = keeps_means sheet l (both_left (keeps sheet l) (fits_all maker depot l) h.1);
          fits = fits_means l (both_right (keeps sheet l) (fits_all maker depot l) h.1);
        }

    kit_is : (l : List ℕ) → FirstAsks maker depot sheet l → IsFull (length sheet) l × T (is_kit l)
    kit_is l h = (
      h.full,
      both_of (keeps sheet l) (fits_all maker depot l) (means_keeps sheet l h.keeps) (means_fits l h.fits),
    )

    pub kits_in_order : InOrder (FirstAsks maker depot sheet) (kits maker depot sheet)
    unfolding kits
    kits_in_order = in_order_those is_kit (λ l. (is_kit_lem l, kit_is l)) (full_in_order (length sheet))

    pub after_in_order : (given : List ℕ) → InOrder (NextAsks maker depot sheet given) (kits_after maker depot sheet given)
    unfolding kits_after
    after_in_order given =
        in_order_those (before given)
        (λ l. (λ h. record { kit = h.0; later = true_T (before given l) h.1 }, λ h. (h.kit, T_true h.later)))
        kits_in_order

    -- so the head is the first in order, and where nothing is written there is none
    pub kits_answer : AnswerTo (FirstAsks maker depot sheet) (not (is_none (kits maker depot sheet))) (head_of (kits maker depot sheet))
    kits_answer = in_order_answers (kits maker depot sheet) kits_in_order

    pub after_answer : (given : List ℕ) →
        AnswerTo (NextAsks maker depot sheet given)
        (not (is_none (kits_after maker depot sheet given)))
        (head_of (kits_after maker depot sheet given))
    after_answer given = in_order_answers (kits_after maker depot sheet given) (after_in_order given)
