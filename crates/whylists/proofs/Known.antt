-- The states that the lines above leave: what is open on them is open on the sheet and has no earlier line.
-- Assumes nothing.
use mathlib.Core.Path.{◌≡◌, refl, sym, subst, ◌∙◌}
use mathlib.Core.Bool.{Bool, true, false, not, ◌&&◌}
use mathlib.Core.List.{List}
use Prim.Native.Nat.{ℕ, zero, suc, ◌≤◌, ◌<◌}
use native.Mathlib.Omega.{arith}
use native.Mathlib.Decide.{ℕ_discrete, dec_lt}
use lib.Dec.{T, T_not, ltb, eqb, lt→ltb, ltb→lt, eqb→eq, eqb_refl}
use lib.ListN.{length, get_or, length-set, get_or-eq_default}
use lib.Seq.{get_or-set_same, get_or-set_other}
use Rattle.lemmas.specs.Lists.{any, upto}
use Rattle.lemmas.proofs.Reading.{get_d_default}
use Rattle.lemmas.proofs.Members.{any_member, any_of, upto_member, member_upto}
use Rattle.lemmas.proofs.Tests.{T_true, T_same, false_T, both_left, both_right, both_of}
use Rattle.spec.specs.Records.{record_at, record_count}
use Rattle.whylists.specs.Lines.{Line, line_at, known, given_by, right_after, right}

-- seven tests that are all passed
pub seven : (a b c d e f g : Bool) → T (a && b && c && d && e && f && g) → T a × T b × T c × T d × T e × T f × T g
seven a b c d e f g t =
    let t6 = both_left (a && b && c && d && e && f) g t in
    let t5 = both_left (a && b && c && d && e) f t6 in
    let t4 = both_left (a && b && c && d) e t5 in
    let t3 = both_left (a && b && c) d t4 in
    let t2 = both_left (a && b) c t3 in (
      both_left a b t2,
      both_right a b t2,
      both_right (a && b) c t3,
      both_right (a && b && c) d t4,
      both_right (a && b && c && d) e t5,
      both_right (a && b && c && d && e) f t6,
      both_right (a && b && c && d && e && f) g t,
    )

module _ (maker depot sheet l : List ℕ) where
  -- a right line, part by part
  pub record IsRightAfter (k : ℕ) (a : Line) : Type 0 where
    pub state : T (ltb a.state 2)
    pub zero3 : T (eqb a.byte3 0)
    pub zero67 : T (eqb a.bytes67 0)
    pub exists : T (ltb a.number (record_count maker depot))
    pub opened : T (eqb (get_or sheet a.box 0) 2)
    pub new : T (not (any (λ j. eqb (line_at l j).box a.box) (upto k)))
    pub given : T (given_by (known sheet l k) a.box (eqb a.state 1) (record_at maker depot a.number))

  pub is_right_after : (k : ℕ) (a : Line) → right_after maker depot sheet l k a ≡ true → IsRightAfter k a
  unfolding right_after
  is_right_after k a e =
      let parts =
      seven (ltb a.state 2) (eqb a.byte3 0) (eqb a.bytes67 0)
      (ltb a.number (record_count maker depot)) (eqb (get_or sheet a.box 0) 2)
      (not (any (λ j. eqb (line_at l j).box a.box) (upto k)))
      (given_by (known sheet l k) a.box (eqb a.state 1) (record_at maker depot a.number))
      (T_true e) in
      record {
        state = parts.0;
        zero3 = parts.1;
        zero67 = parts.2;
        exists = parts.3;
        opened = parts.4;
        new = parts.5;
        given = parts.6;
      }

  abbrev pub IsRight : ℕ → Type 0
  IsRight k = IsRightAfter k (line_at l k)

  pub is_right : (k : ℕ) → right maker depot sheet l k ≡ true → IsRight k
  unfolding right
  is_right k e = is_right_after k (line_at l k) e

  -- its box is one of the sheet's
  pub right_within : (k : ℕ) → IsRight k → (line_at l k).box < length sheet
  right_within k r = at (dec_lt (line_at l k).box (length sheet))
    where
      at : Dec ((line_at l k).box < length sheet) → (line_at l k).box < length sheet
      at (yes h) = h
      at (no h) =
          let past : get_or sheet (line_at l k).box 0 ≡ 0 = get_or-eq_default sheet 0 {n = (line_at l k).box} (omega arith) in
          absurd (omega (arith, past, eqb→eq (get_or sheet (line_at l k).box 0) 2 r.opened))

  pub known_size : (k : ℕ) → length (known sheet l k) ≡ length sheet
  known_size zero = refl
  known_size (suc k) = length-set (known sheet l k) (line_at l k).box (line_at l k).state ∙ known_size k

  -- a box with no line has the sheet's state
  pub known_none : (k b : ℕ) → ((j : ℕ) → j < k → (line_at l j).box ≡ b → ⊥) → get_or (known sheet l k) b 2 ≡ get_or sheet b 2
  known_none zero b none = refl
  known_none (suc k) b none =
      get_or-set_other (known sheet l k) (line_at l k).box b (line_at l k).state 2 (λ e. none k (omega arith) (sym e))
      ∙ known_none k b (λ j h. none j (omega arith))

  -- an earlier line has another box
  new_box : (k j : ℕ) → j < k → IsRight k → (line_at l j).box ≡ (line_at l k).box → ⊥
  new_box k j h r e =
      T_not (any (λ i. eqb (line_at l i).box (line_at l k).box) (upto k)) r.new
      (any_of (λ i. eqb (line_at l i).box (line_at l k).box) (upto_member h) (rw e (eqb_refl (line_at l k).box)))

  -- a box with a line has its state
  pub known_line : (k j : ℕ) → j < k → ((i : ℕ) → i < k → IsRight i) → get_or (known sheet l k) (line_at l j).box 2 ≡ (line_at l j).state
  known_line zero j h rights = absurd (omega arith)
  known_line (suc k) j h rights = at (ℕ_discrete j k) (λ before. known_line k j before (λ i l'. rights i (omega arith)))
    where
      at : Dec (j ≡ k) → (j < k → get_or (known sheet l k) (line_at l j).box 2 ≡ (line_at l j).state) →
          get_or (known sheet l (suc k)) (line_at l j).box 2 ≡ (line_at l j).state
      at (yes e) above =
          let inside : (line_at l k).box < length (known sheet l k) = omega (arith, known_size k, right_within k (rights k (omega arith))) in
          rw e (get_or-set_same (known sheet l k) (line_at l k).box (line_at l k).state 2 inside)
      at (no e) above =
          let before : j < k = omega arith in
          get_or-set_other (known sheet l k) (line_at l k).box (line_at l j).box (line_at l k).state 2 (new_box k j before (rights k (omega arith)))
          ∙ above before

  -- so it is settled
  known_at : (k j : ℕ) → j < k → ((i : ℕ) → i < k → IsRight i) → get_or (known sheet l k) (line_at l j).box 2 ≤ 1
  known_at k j h rights =
      let small : (line_at l j).state < 2 = ltb→lt (line_at l j).state 2 (rights j h).state in
      omega (arith, known_line k j h rights)

  -- a box is open on the known states just when it is open on the sheet and has no line, for a box of the sheet
  module _ (k b : ℕ) (rights : (i : ℕ) → i < k → IsRight i) where
    abbrev earlier : Bool
    earlier = any (λ j. eqb (line_at l j).box b) (upto k)

    pub open_same : (ltb b (length sheet) && eqb (get_or (known sheet l k) b 2) 2) ≡ (eqb (get_or sheet b 0) 2 && not earlier)
    open_same = T_same _ _ forth back
      where
        none : earlier ≡ false → (j : ℕ) → j < k → (line_at l j).box ≡ b → ⊥
        none e j h is = subst T e (any_of (λ i. eqb (line_at l i).box b) (upto_member h) (rw is (eqb_refl b)))

        -- a box of the sheet is read inside
        inside : get_or sheet b 0 ≡ 2 → b < length sheet
        inside e = at (dec_lt b (length sheet))
          where
            at : Dec (b < length sheet) → b < length sheet
            at (yes h) = h
            at (no h) =
                let past : get_or sheet b 0 ≡ 0 = get_or-eq_default sheet 0 {n = b} (omega arith) in
                absurd (omega (arith, past, e))

        forth : T (ltb b (length sheet) && eqb (get_or (known sheet l k) b 2) 2) → T (eqb (get_or sheet b 0) 2 && not earlier)
        forth t = at earlier refl
          where
            within : b < length sheet
            within = ltb→lt b (length sheet) (both_left (ltb b (length sheet)) (eqb (get_or (known sheet l k) b 2) 2) t)

            opened : get_or (known sheet l k) b 2 ≡ 2
            opened = eqb→eq (get_or (known sheet l k) b 2) 2 (both_right (ltb b (length sheet)) (eqb (get_or (known sheet l k) b 2) 2) t)

            at : (e : Bool) → earlier ≡ e → T (eqb (get_or sheet b 0) 2 && not e)
            at true e =
                let found = any_member (λ j. eqb (line_at l j).box b) (upto k) (T_true e) in
                let is : (line_at l found.0).box ≡ b = eqb→eq (line_at l found.0).box b found.2 in
                absurd (omega (arith, opened, rw is at (known_at k found.0 (member_upto k found.1) rights)))
            at false e =
                let same = known_none k b (none e) in
                let here : get_or sheet b 0 ≡ 2 = get_d_default sheet b 0 2 within ∙ sym same ∙ opened in
                both_of (eqb (get_or sheet b 0) 2) true (rw here (eqb_refl 2)) tt

        back : T (eqb (get_or sheet b 0) 2 && not earlier) → T (ltb b (length sheet) && eqb (get_or (known sheet l k) b 2) 2)
        back t =
            let here : get_or sheet b 0 ≡ 2 = eqb→eq (get_or sheet b 0) 2 (both_left (eqb (get_or sheet b 0) 2) (not earlier) t) in
            let e : earlier ≡ false = false_T earlier (T_not earlier (both_right (eqb (get_or sheet b 0) 2) (not earlier) t)) in
            let opened : get_or (known sheet l k) b 2 ≡ 2 = known_none k b (none e) ∙ sym (get_d_default sheet b 0 2 (inside here)) ∙ here in
            both_of (ltb b (length sheet)) (eqb (get_or (known sheet l k) b 2) 2) (lt→ltb b (length sheet) (inside here)) (rw opened (eqb_refl 2))
