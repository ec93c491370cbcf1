-- The maker says what Fill says, and the list that it hands out explains each box that Fill settles.
-- Assumes nothing.
use mathlib.Core.Path.{◌≡◌, refl, sym, ap, subst, ◌∙◌}
use mathlib.Core.Logic.{◌↔◌}
use mathlib.Core.Bool.{Bool, true, false, cond}
use mathlib.Core.List.{List, [], ◌∷◌, ◌++◌}
use Prim.Native.Nat.{ℕ, ◌*◌, ◌<◌}
use native.Mathlib.Omega.{arith}
use lib.Dec.{T}
use lib.ListN.{length, get_or, take, drop}
use lib.Seq.{take_all, take_at, drop_at}
use Rattle.spec.specs.Records.{rules_in}
use Rattle.spec.specs.Facts.{Clash, settled}
use Rattle.spec.specs.Refusals.{reason, Said, refused, answered, passed, judge, written, sheet_checks, order_checks, out_check}
use Rattle.spec.specs.Fill.{closure_of, clashes, clash_check, boxes_filled, broken_check, fill_judges, fill_says, fill_writes}
use Rattle.spec.proofs.Judge.{refused_answered, judge_passed, judge_reached, judge_left}
use Rattle.spec.proofs.Accepted.{AcceptedSheet, sheet_accepted}
use Rattle.theory.proofs.Filling.{clash_finds, fill_filled}
use Rattle.whylists.specs.Lines.{Line, line_count, known, right_after}
use Rattle.whylists.specs.Ours.{ours, lines_bytes}
use Rattle.whylists.specs.Says.{why_checks, why_judges, why_says, at_head, why_writes, why_check_judges, why_check_says}
use Rattle.whylists.specs.After.{states_after}
use Rattle.whylists.proofs.Known.{IsRight, is_right}
use Rattle.whylists.proofs.Bytes.{bytes_length}
use Rattle.whylists.proofs.ReadBack.{known_after}
use Rattle.whylists.proofs.Explained.{line_explains, explained_line}
use Rattle.whylists.proofs.Ends.{OnWay}
use Rattle.whylists.proofs.Ours.{ours_fills}
use Rattle.whylists.proofs.Accepted.{ours_right, ours_accepted}
use Rattle.whylists.proofs.Lowest.{lowest_box, lowest_record, no_more}
use Rattle.whylists.proofs.Counting.{ours_count}
use Rattle.claims.specs.Why.{HasLine, handed_lines, LowestLine, Explains}
use Rattle.claims.proofs.Refusing.{form_passes}
use Rattle.claims.proofs.Unbroken.{full_unbroken}
use Rattle.claims.proofs.Filling.{said_own, wrote}

module _ (maker depot sheet : List ℕ) (known' : AcceptedSheet (length sheet) maker depot sheet) where
  abbrev codes : List ℕ
  codes = closure_of maker depot sheet

  -- no code has both facts, so no box does
  unclashed : clashes codes ≡ false → (b : ℕ) → Clash (rules_in maker depot) sheet b → ⊥
  unclashed e b both = subst T e (clash_finds maker depot sheet known' both)

  -- the maker says 7, or the number of boxes that Fill fills
  why_says_lem : why_judges maker depot sheet ≡ cond (clashes codes) (refused (reason 7 0)) (answered (boxes_filled sheet codes))
  unfolding why_judges clash_check
  why_says_lem = at (clashes codes) refl
    where
      at : (c : Bool) → clashes codes ≡ c →
          cond c (refused (reason 7 0)) (answered (length (ours maker depot sheet))) ≡ cond c (refused (reason 7 0)) (answered (boxes_filled sheet codes))
      at true e = refl
      at false e = ap (λ (count : ℕ). answered count) (ours_count maker depot sheet known' (unclashed e))

  -- and so does Fill
  fill_says_lem : fill_judges maker depot sheet ≡ cond (clashes codes) (refused (reason 7 0)) (answered (boxes_filled sheet codes))
  unfolding fill_judges clash_check
  fill_says_lem = at (clashes codes) refl
    where
      after : Said ℕ
      after = judge (broken_check maker depot codes ∷ []) (answered (boxes_filled sheet codes))

      at : (c : Bool) → clashes codes ≡ c → cond c (refused (reason 7 0)) after ≡ cond c (refused (reason 7 0)) (answered (boxes_filled sheet codes))
      at true e = refl
      at false e =
          let own = fill_filled maker depot sheet (unclashed e) (full_unbroken maker depot sheet known' (unclashed e)) in
          sym (ap (λ (c : Bool). cond c (refused (reason 7 0)) after) e) ∙ own

-- the maker's form has passed
why_known : (maker depot sheet out : List ℕ) → judge (why_checks maker depot sheet out) passed ≡ passed → AcceptedSheet (length sheet) maker depot sheet
why_known maker depot sheet out passes =
    sheet_accepted maker depot sheet (judge_left (sheet_checks maker depot sheet) (out_check (8 * length sheet) out ∷ []) passes)

pub says_alike : (maker depot sheet out filled : List ℕ) → judge (why_checks maker depot sheet out) passed ≡ passed →
    judge (order_checks maker depot sheet filled) passed ≡ passed → why_says maker depot sheet out ≡ fill_says maker depot sheet filled
unfolding why_says
says_alike maker depot sheet out filled passes passes' =
    let known' = why_known maker depot sheet out passes in
    judge_passed (why_checks maker depot sheet out) (why_judges maker depot sheet) passes
    ∙ why_says_lem maker depot sheet known'
    ∙ sym (fill_says_lem maker depot sheet known')
    ∙ sym (said_own maker depot sheet filled passes')

module _ (maker depot sheet out : List ℕ) (count : ℕ) (e : why_says maker depot sheet out ≡ answered count) where
  reached : (judge (why_checks maker depot sheet out) passed ≡ passed) × (why_judges maker depot sheet ≡ answered count)
  unfolding why_says
  reached = judge_reached (why_checks maker depot sheet out) (why_judges maker depot sheet) e

  accepted : AcceptedSheet (length sheet) maker depot sheet
  accepted = why_known maker depot sheet out reached.0

  -- it has said that there is no clash, and the number of our lines
  own : (clashes (closure_of maker depot sheet) ≡ false) × (length (ours maker depot sheet) ≡ count)
  unfolding why_judges clash_check
  own = at (clashes (closure_of maker depot sheet)) refl reached.1
    where
      at : (c : Bool) → clashes (closure_of maker depot sheet) ≡ c →
          cond c (refused (reason 7 0)) (answered (length (ours maker depot sheet))) ≡ answered count →
          (clashes (closure_of maker depot sheet) ≡ false) × (length (ours maker depot sheet) ≡ count)
      at true is said = absurd (refused_answered said)
      at false is said = (is, cc)

  none : (b : ℕ) → Clash (rules_in maker depot) sheet b → ⊥
  none = unclashed maker depot sheet accepted own.0

  abbrev bytes : List ℕ
  bytes = lines_bytes (ours maker depot sheet)

  size : length bytes ≡ 8 * count
  size = bytes_length (ours maker depot sheet) ∙ rw own.1

  wrote_lines : why_writes maker depot sheet out ≡ bytes ++ drop (length bytes) out
  unfolding why_writes
  wrote_lines = ap (λ (s : Said ℕ). written s (at_head bytes out) out) e

  handed : handed_lines maker depot sheet out count ≡ bytes
  handed = ap (take (8 * count)) wrote_lines ∙ take_at bytes (drop (length bytes) out) (8 * count) size

  -- where our list starts
  start : OnWay maker depot sheet sheet
  start = record { size = refl; states = accepted.sheet_bytes; keeps = λ b state t. t; derived = λ b state t. settled t }

  many : line_count bytes ≡ count
  unfolding line_count
  many = omega (arith, size)

  rights : (i : ℕ) → i < count → IsRight maker depot sheet bytes i
  unfolding ours
  rights i h = is_right maker depot sheet bytes i (ours_right maker depot sheet start i (omega (arith, own.1)))

  -- what is known after the last line is the filled sheet
  known_last : (filled : List ℕ) → judge (order_checks maker depot sheet filled) passed ≡ passed →
      known sheet bytes count ≡ fill_writes maker depot sheet filled
  known_last filled passes =
      let all = known_after sheet (ours maker depot sheet) count (omega (arith, own.1)) in
      let lines : take count (ours maker depot sheet) ≡ ours maker depot sheet = take_all count (ours maker depot sheet) (omega (arith, own.1)) in
      all
      ∙ ap (states_after sheet) lines
      ∙ ours_fills maker depot sheet accepted none
      ∙ sym (wrote maker depot sheet filled passes (λ found. none found.0 found.1))

  has_lines : (filled : List ℕ) → judge (order_checks maker depot sheet filled) passed ≡ passed → (b state : ℕ) →
      HasLine bytes b state ↔ ((get_or sheet b 2 ≡ 2) × (get_or (fill_writes maker depot sheet filled) b 2 ≡ state) × (state < 2))
  has_lines filled passes b state = (forth, back)
    where
      same : known sheet bytes count ≡ fill_writes maker depot sheet filled
      same = known_last filled passes

      forth : HasLine bytes b state → (get_or sheet b 2 ≡ 2) × (get_or (fill_writes maker depot sheet filled) b 2 ≡ state) × (state < 2)
      forth (j, h, is, says) =
          let found = line_explains maker depot sheet bytes count rights b state j (omega (arith, many)) is says in
          (found.0, rw same at found.1, found.2)

      back : (get_or sheet b 2 ≡ 2) × (get_or (fill_writes maker depot sheet filled) b 2 ≡ state) × (state < 2) → HasLine bytes b state
      back (opened, filled', small) =
          let found = explained_line maker depot sheet bytes count rights b state opened (rw same filled') small in
          (found.0, omega (arith, found.1, many), found.2, found.3)

  lowest_line : (k : ℕ) → k < count → LowestLine maker depot sheet bytes k
  unfolding ours
  lowest_line k h =
      record {
        box = λ a right'. lowest_box maker depot sheet start k (omega (arith, own.1)) a right';
        number = λ a right' same. lowest_record maker depot sheet start k (omega (arith, own.1)) a right' same;
      }

  last_line : (a : Line) → right_after maker depot sheet bytes count a ≡ false
  unfolding ours
  last_line a = subst (λ (k : ℕ). right_after maker depot sheet bytes k a ≡ false) own.1 (no_more maker depot sheet start a)

  check_accepts : why_check_says maker depot sheet bytes ≡ passed
  unfolding why_check_says
  check_accepts =
      judge_passed (sheet_checks maker depot sheet) (why_check_judges maker depot sheet bytes)
      (judge_left (sheet_checks maker depot sheet) (out_check (8 * length sheet) out ∷ []) reached.0)
      ∙ ours_accepted maker depot sheet accepted.sheet_bytes

  pub list_explains : Explains maker depot sheet out count
  list_explains =
      record {
        lines = rw handed many;
        stays = ap (drop (8 * count)) wrote_lines ∙ drop_at bytes (drop (length bytes) out) (8 * count) size ∙ ap (λ (m : ℕ). drop m out) size;
        accepted = rw handed check_accepts;
        settles = λ filled form. rw handed (has_lines filled (form_passes (order_checks maker depot sheet filled) form));
        lowest = λ k h. rw handed (lowest_line k h);
        last = λ a. rw handed (last_line a);
      }
