-- The lines of a list that is right are exactly what the states that they leave have more than the sheet; and what stands at a line or
-- below it is of no matter to it.
-- Assumes nothing.
use mathlib.Core.Path.{◌≡◌, refl, sym, ap, subst, ◌∙◌}
use mathlib.Core.Bool.{Bool, true, false}
use mathlib.Core.List.{List}
use Prim.Native.Nat.{ℕ, zero, suc, ◌<◌}
use native.Mathlib.Omega.{arith}
use lib.Dec.{T, eqb, ltb→lt, eqb→eq, eqb_refl}
use lib.ListN.{get_or}
use Rattle.lemmas.specs.Lists.{any, upto}
use Rattle.lemmas.proofs.Reading.{get_d_default}
use Rattle.lemmas.proofs.Members.{any_member, any_of, upto_member, member_upto}
use Rattle.lemmas.proofs.Tests.{T_true, T_same}
use Rattle.whylists.specs.Lines.{Line, line_at, known, right_after}
use Rattle.whylists.proofs.Known.{IsRight, right_within, known_none, known_line}

module _ (maker depot sheet l : List ℕ) (k : ℕ) (rights : (i : ℕ) → i < k → IsRight maker depot sheet l i) (b v : ℕ) where
  pub line_explains : (j : ℕ) → j < k → (line_at l j).box ≡ b → (line_at l j).state ≡ v →
      (get_or sheet b 2 ≡ 2) × (get_or (known sheet l k) b 2 ≡ v) × (v < 2)
  line_explains j h is state =
      let r = rights j h in
      let below = right_within maker depot sheet l j r in
      let opened = sym (get_d_default sheet (line_at l j).box 0 2 below) ∙ eqb→eq (get_or sheet (line_at l j).box 0) 2 r.opened in
      let small : (line_at l j).state < 2 = ltb→lt (line_at l j).state 2 r.state in
      let here = known_line maker depot sheet l k j h rights in
      (rw is at opened, (rw is at here) ∙ state, rw state at small)

  pub explained_line : get_or sheet b 2 ≡ 2 → get_or (known sheet l k) b 2 ≡ v → v < 2 →
      (j : ℕ) × (j < k) × ((line_at l j).box ≡ b) × ((line_at l j).state ≡ v)
  explained_line opened settled small = at (any (λ j. eqb (line_at l j).box b) (upto k)) refl
    where
      none : any (λ j. eqb (line_at l j).box b) (upto k) ≡ false → (j : ℕ) → j < k → (line_at l j).box ≡ b → ⊥
      none e j h is = subst T e (any_of (λ i. eqb (line_at l i).box b) (upto_member h) (rw is (eqb_refl b)))

      at : (e : Bool) → any (λ j. eqb (line_at l j).box b) (upto k) ≡ e → (j : ℕ) × (j < k) × ((line_at l j).box ≡ b) × ((line_at l j).state ≡ v)
      at true e =
          let found = any_member (λ j. eqb (line_at l j).box b) (upto k) (T_true e) in
          let j = found.0 in
          let h = member_upto k found.1 in
          let is : (line_at l j).box ≡ b = eqb→eq (line_at l j).box b found.2 in
          (j, h, is, sym (known_line maker depot sheet l k j h rights) ∙ ap (λ (c : ℕ). get_or (known sheet l k) c 2) is ∙ settled)
      at false e = absurd (omega (arith, known_none maker depot sheet l k b (none e), opened, settled, small))

-- two lists with the same first k lines
module _ (sheet l m : List ℕ) where
  known_alike : (k : ℕ) → ((j : ℕ) → j < k → line_at l j ≡ line_at m j) → known sheet l k ≡ known sheet m k
  known_alike zero same = refl
  known_alike (suc k) same = rw (same k (omega arith), known_alike k (λ j h. same j (omega arith)))

  has_line_lem : (k b : ℕ) → ((j : ℕ) → j < k → line_at l j ≡ line_at m j) → T (any (λ j. eqb (line_at l j).box b) (upto k)) →
      T (any (λ j. eqb (line_at m j).box b) (upto k))
  has_line_lem k b same t =
      let found = any_member (λ j. eqb (line_at l j).box b) (upto k) t in
      let here = same found.0 (member_upto k found.1) in
      any_of (λ j. eqb (line_at m j).box b) found.1 (subst (λ (a : Line). T (eqb a.box b)) here found.2)

-- a line is right after both, or after none
pub above_alone : (maker depot sheet l m : List ℕ) (k : ℕ) → ((j : ℕ) → j < k → line_at l j ≡ line_at m j) → (a : Line) →
    right_after maker depot sheet l k a ≡ right_after maker depot sheet m k a
unfolding right_after
above_alone maker depot sheet l m k same a =
    let one : any (λ j. eqb (line_at l j).box a.box) (upto k) ≡ any (λ j. eqb (line_at m j).box a.box) (upto k) =
    T_same (any (λ j. eqb (line_at l j).box a.box) (upto k)) (any (λ j. eqb (line_at m j).box a.box) (upto k))
    (has_line_lem sheet l m k a.box same) (has_line_lem sheet m l k a.box (λ j h. sym (same j h))) in
    rw (one, known_alike sheet l m k same)
