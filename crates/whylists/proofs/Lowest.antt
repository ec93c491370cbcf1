-- Each of our lines is the lowest box that then follows, by the lowest record that gives it: of all lines that would be right there.
-- And after the last one no line is right.
-- Assumes nothing.
use mathlib.Core.Path.{◌≡◌, sym, ap, subst, ◌∙◌}
use mathlib.Core.Bool.{Bool, true, false, true≢false, not, ◌&&◌}
use mathlib.Core.List.{List}
use Prim.Native.Nat.{ℕ, ◌≤◌, ◌<◌}
use native.Mathlib.Omega.{arith}
use native.Mathlib.Decide.{dec_lt}
use lib.Dec.{T, ltb, eqb, ltb→lt}
use lib.ListN.{length, get_or, take}
use lib.Seq.{take-length}
use Rattle.lemmas.specs.Lists.{any, upto}
use Rattle.lemmas.proofs.Lowest.{lowest_found}
use Rattle.lemmas.proofs.Members.{any_of, upto_member}
use Rattle.lemmas.proofs.Reading.{get_d_default}
use Rattle.lemmas.proofs.Tests.{T_true, true_T, false_T, both_left, both_right, both_of, or_left, or_right}
use Rattle.spec.specs.Records.{record_at, record_count}
use Rattle.theory.proofs.Measure.{open_within}
use Rattle.whylists.specs.Lines.{Line, line_at, known, given_by, right_after}
use Rattle.whylists.specs.Ours.{gives_box, follows_now, next_box, by_record, next_line, lines_from, lines_bytes}
use Rattle.whylists.specs.After.{states_after}
use Rattle.whylists.proofs.Known.{IsRight, IsRightAfter, is_right, is_right_after, open_same}
use Rattle.whylists.proofs.ReadBack.{read_back, known_after}
use Rattle.whylists.proofs.Ends.{OnWay, NoneFollows, record_below, ends, ours_nth, way_nth}
use Rattle.whylists.proofs.Accepted.{ours_right}

-- what gives a box one state gives it some
gives_some : (maker depot t : List ℕ) (b r : ℕ) (state : Bool) → T (given_by t b state (record_at maker depot r)) → gives_box maker depot t b r ≡ true
unfolding gives_box
gives_some maker depot t b r false g = true_T _ (or_left (given_by t b false (record_at maker depot r)) (given_by t b true (record_at maker depot r)) g)
gives_some maker depot t b r true g = true_T _ (or_right (given_by t b false (record_at maker depot r)) (given_by t b true (record_at maker depot r)) g)

-- a line that would be right after k right ones, on the states that these leave
record Would (maker depot t : List ℕ) (a : Line) : Type 0 where
  below : a.box < length t
  exists : a.number < record_count maker depot
  gives : gives_box maker depot t a.box a.number ≡ true
  follows : follows_now maker depot t a.box ≡ true

module _ (maker depot sheet l : List ℕ) (k : ℕ) (rights : (i : ℕ) → i < k → IsRight maker depot sheet l i) {t : List ℕ}
    (above : known sheet l k ≡ t) (size : length t ≡ length sheet) where
  would : (a : Line) → right_after maker depot sheet l k a ≡ true → Would maker depot t a
  unfolding follows_now
  would a e =
      record {
        below = below;
        exists = exists;
        gives = gives;
        follows =
            true_T (eqb (get_or t a.box 0) 2 && any (gives_box maker depot t a.box) (upto (record_count maker depot)))
            (both_of (eqb (get_or t a.box 0) 2) (any (gives_box maker depot t a.box) (upto (record_count maker depot)))
            (rw (get_d_default t a.box 0 2 below) (subst (λ (s : List ℕ). T (eqb (get_or s a.box 2) 2)) above opened))
            (any_of (gives_box maker depot t a.box) (upto_member exists) (T_true gives)));
      }
    where
      r : IsRightAfter maker depot sheet l k a
      r = is_right_after maker depot sheet l k a e

      exists : a.number < record_count maker depot
      exists = ltb→lt a.number (record_count maker depot) r.exists

      gives : gives_box maker depot t a.box a.number ≡ true
      gives =
          gives_some maker depot t a.box a.number (eqb a.state 1)
          (subst (λ (s : List ℕ). T (given_by s a.box (eqb a.state 1) (record_at maker depot a.number))) above r.given)

      both : T (ltb a.box (length sheet) && eqb (get_or (known sheet l k) a.box 2) 2)
      both =
          subst T (sym (open_same maker depot sheet l k a.box rights))
          (both_of (eqb (get_or sheet a.box 0) 2) (not (any (λ j. eqb (line_at l j).box a.box) (upto k))) r.opened r.new)

      below : a.box < length t
      below = omega (arith, size, ltb→lt a.box (length sheet) (both_left (ltb a.box (length sheet)) (eqb (get_or (known sheet l k) a.box 2) 2) both))

      opened : T (eqb (get_or (known sheet l k) a.box 2) 2)
      opened = both_right (ltb a.box (length sheet)) (eqb (get_or (known sheet l k) a.box 2) 2) both

module _ (maker depot sheet : List ℕ) (start : OnWay maker depot sheet sheet) where
  abbrev lines : List Line
  lines = lines_from maker depot (length sheet) sheet

  rights : (k : ℕ) → k ≤ length lines → (i : ℕ) → i < k → IsRight maker depot sheet (lines_bytes lines) i
  rights k h i l = is_right maker depot sheet (lines_bytes lines) i (ours_right maker depot sheet start i (omega arith))

  module _ (k : ℕ) (h : k < length lines) (a : Line) (e : right_after maker depot sheet (lines_bytes lines) k a ≡ true) where
    abbrev t : List ℕ
    t = states_after sheet (take k lines)

    here : (line_at (lines_bytes lines) k ≡ next_line maker depot t) × (next_box maker depot t < length t)
    here = let found = ours_nth maker depot sheet (length sheet) sheet k h in (read_back lines k h ∙ found.0, found.1)

    way : OnWay maker depot sheet t
    way = way_nth maker depot sheet (length sheet) sheet k start

    able : Would maker depot t a
    able = would maker depot sheet (lines_bytes lines) k (rights k (omega arith)) (known_after sheet lines k (omega arith)) way.size a e

    pub lowest_box : (line_at (lines_bytes lines) k).box ≤ a.box
    unfolding next_line next_box
    lowest_box = rw here.0 (at (dec_lt a.box (next_box maker depot t)))
      where
        at : Dec (a.box < next_box maker depot t) → next_box maker depot t ≤ a.box
        at (yes lower) = absurd (true≢false (sym able.follows ∙ (lowest_found (follows_now maker depot t) (length t) here.1).1 a.box lower))
        at (no other) = omega arith

    pub lowest_record : a.box ≡ (line_at (lines_bytes lines) k).box → (line_at (lines_bytes lines) k).number ≤ a.number
    unfolding next_line by_record
    lowest_record same = rw here.0 (at (dec_lt a.number (by_record maker depot t)))
      where
        is : a.box ≡ next_box maker depot t
        is = rw here.0 at same

        at : Dec (a.number < by_record maker depot t) → by_record maker depot t ≤ a.number
        at (yes lower) =
            let gives : gives_box maker depot t (next_box maker depot t) a.number ≡ true = rw is at able.gives in
            let found = lowest_found (gives_box maker depot t (next_box maker depot t)) (record_count maker depot) (record_below maker depot sheet way here.1) in
            absurd (true≢false (sym gives ∙ found.1 a.number lower))
        at (no other) = omega arith

  -- after the last line none is right
  pub no_more : (a : Line) → right_after maker depot sheet (lines_bytes lines) (length lines) a ≡ false
  no_more a =
      false_T (right_after maker depot sheet (lines_bytes lines) (length lines) a)
      (λ e. let w = able_last (true_T _ e) in true≢false (sym w.follows ∙ last.1 a.box w.below))
    where
      last : OnWay maker depot sheet (states_after sheet lines) × NoneFollows maker depot sheet (states_after sheet lines)
      last = ends maker depot sheet (length sheet) sheet start (open_within sheet)

      able_last : right_after maker depot sheet (lines_bytes lines) (length lines) a ≡ true → Would maker depot (states_after sheet lines) a
      able_last e =
          would maker depot sheet (lines_bytes lines) (length lines) (rights (length lines) (omega arith))
          (known_after sheet lines (length lines) (omega arith) ∙ ap (states_after sheet) (take-length lines))
          last.0.size a e
