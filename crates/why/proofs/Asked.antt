-- What a record gives a box, as the code asks: by the box's place in the record, from the states of the record's other boxes.
-- Assumes nothing.
use mathlib.Core.Path.{◌≡◌, refl, sym, ◌∙◌}
use mathlib.Core.Bool.{Bool, true, false, cond, true≢false}
use mathlib.Core.List.{List}
use Prim.Native.Nat.{ℕ, ◌%◌, ◌≤◌, ◌<◌}
use native.Mathlib.Omega.{arith}
use Rattle.std.proofs.lemmas.Bool.Decides.{nat_tests}
use lib.Dec.{T, T_not}
use lib.ListN.{get_or}
use Rattle.lemmas.proofs.Tests.{false_T}
use Rattle.spec.specs.Kinds.{Place, X, Y, Z, kind_of}
use Rattle.spec.specs.Records.{Rec, box_at, bad, is_rule}
use Rattle.spec.specs.Rounds.{code}
use Rattle.spec.specs.OneRule.{alone}
use Rattle.theory.specs.Steps.{z_missing, state_z}
use Rattle.theory.proofs.Places.{Names, named, named_names, names_named, good_kind, good_x, good_y, good_z}
use Rattle.theory.proofs.Stepping.{states_sheet}
use Rattle.fire.specs.States.{OnSheet, counted}
use Rattle.engine.specs.Moves.{Cells}
use Rattle.engine.proofs.Settled.{cells_read}
use Rattle.why.specs.Given.{given_alone}
use Rattle.whylists.specs.Lines.{given_by}
use Rattle.why.proofs.Trees.{side_tree, x_gets_lem, y_gets_lem, z_gets_lem, side_counted}
use Rattle.whylists.proofs.Carried.{given_alike, given_none}

-- what the record gives box b
abbrev pub given_code : Rec → List ℕ → ℕ → ℕ
given_code q s b = code (given_by s b false q) (given_by s b true q)

module _ (q : Rec) {s : List ℕ} (good : bad 256 q ≡ false) (cells : Cells s) where
  -- a record that does not count gives nothing
  pub asked_passed : is_rule q ≡ false → (b : ℕ) → given_code q s b ≡ 2
  unfolding given_by code
  asked_passed passed b = rw passed

  pub read : (b : ℕ) → b < 256 → get_or s b 0 ≡ get_or s b 2
  read = cells_read cells

  -- the three states that a look reads
  pub looked : OnSheet (get_or s q.x 0) (get_or s q.y 0) (get_or s (q.z % 256) 0)
  looked = record { x_state = below _ (good_x 256 q good); y_state = below _ (good_y 256 q good); z_state = below _ (omega arith) }
    where
      below : (b : ℕ) → b < 256 → get_or s b 0 ≤ 2
      below b h = rw (read b h) (cells.sheet b)

  pub beside_x : OnSheet 2 (get_or s q.y 0) (get_or s (q.z % 256) 0)
  beside_x = record { x_state = omega arith; y_state = looked.y_state; z_state = looked.z_state }

  pub beside_y : OnSheet 2 (get_or s q.x 0) (get_or s (q.z % 256) 0)
  beside_y = record { x_state = omega arith; y_state = looked.x_state; z_state = looked.z_state }

  pub beside_z : OnSheet (get_or s q.x 0) (get_or s q.y 0) 2
  beside_z = record { x_state = looked.x_state; y_state = looked.y_state; z_state = omega arith }

  -- the states that count are those that the record reads
  sheet_read : OnSheet (get_or s q.x 2) (get_or s q.y 2) (state_z q s)
  sheet_read =
      let three = states_sheet q s cells.sheet in
      record { x_state = three 0; y_state = three 1; z_state = three 2 }

  pub z_counted_lem : counted q.kind (get_or s (q.z % 256) 0) ≡ state_z q s
  unfolding state_z
  z_counted_lem = at (z_missing q) refl
    where
      at : (missing : Bool) → z_missing q ≡ missing → cond missing 2 (get_or s (q.z % 256) 0) ≡ cond missing 2 (get_or s q.z 2)
      at true e = refl
      at false e =
          let within : q.z < 256 = good_z 256 q good e in
          let same : q.z % 256 ≡ q.z = omega arith in
          rw same (read q.z within)

  module _ (counts : is_rule q ≡ true) where
    -- at a place that it names
    pub at_place : (p : Place) → Names q p →
        given_code q s (box_at q p) ≡ given_alone (box_at (alone q.kind) p) q.kind (get_or s q.x 2) (get_or s q.y 2) (state_z q s)
    unfolding given_by
    at_place p m = rw (counts, given_alike q s 256 good p m false, given_alike q s 256 good p m true)

    pub names : (p : Place) → T (named (kind_of q.kind) p) → Names q p
    names = named_names q (good_kind 256 q good)

    -- x by y and z, and y by x and z
    side : {other : ℕ} → other < 256 → OnSheet 2 (get_or s other 0) (get_or s (q.z % 256) 0) →
        side_tree q.kind (get_or s other 2) (state_z q s) ≡ given_alone 0 q.kind 2 (get_or s other 0) (get_or s (q.z % 256) 0)
    side {other} h asked = rw (← z_counted_lem, ← read other h) (sym (side_counted q.kind asked) ∙ x_gets_lem q.kind asked)

    pub asked_x : (b : ℕ) → b ≡ q.x → given_code q s b ≡ given_alone 0 q.kind 2 (get_or s q.y 0) (get_or s (q.z % 256) 0)
    unfolding box_at
    asked_x b e = rw e (at_place X (names X tt) ∙ sym (x_gets_lem q.kind sheet_read) ∙ side (good_y 256 q good) beside_x)

    pub asked_y : (b : ℕ) → b ≡ q.y → given_code q s b ≡ given_alone 0 q.kind 2 (get_or s q.x 0) (get_or s (q.z % 256) 0)
    unfolding box_at
    asked_y b e = rw e (at_place Y (names Y tt) ∙ sym (y_gets_lem q.kind sheet_read) ∙ side (good_x 256 q good) beside_y)

    pub asked_z : z_missing q ≡ false → (b : ℕ) → b ≡ q.z % 256 →
        given_code q s b ≡ given_alone 2 q.kind (get_or s q.x 0) (get_or s q.y 0) 2
    unfolding box_at
    asked_z there b e =
        let within = good_z 256 q good there in
        let same : b ≡ q.z = omega arith in
        rw same
        (at_place Z (names Z (rw there tt))
        ∙ sym (z_gets_lem q.kind sheet_read)
        ∙ rw (← read q.x (good_x 256 q good), ← read q.y (good_y 256 q good)) (z_gets_lem q.kind beside_z))

    -- a box at none of its places
    pub asked_none : (b : ℕ) → (b ≡ q.x → ⊥) → (b ≡ q.y → ⊥) → (z_missing q ≡ false → b ≡ q.z → ⊥) → given_code q s b ≡ 2
    unfolding given_by code box_at
    asked_none b ¬x ¬y ¬z = rw (counts, given_none q s 256 good b other false, given_none q s 256 good b other true)
      where
        other : (p : Place) → Names q p → box_at q p ≡ b → ⊥
        other X m e = ¬x (sym e)
        other Y m e = ¬y (sym e)
        other Z m e = ¬z (false_T (z_missing q) (T_not (z_missing q) (names_named q (good_kind 256 q good) Z m))) (sym e)

    -- where the record has a z, and where it has none
    pub asked_other : z_missing q ≡ false → (b : ℕ) → (b ≡ q.x → ⊥) → (b ≡ q.y → ⊥) → (b ≡ q.z % 256 → ⊥) → given_code q s b ≡ 2
    asked_other there b ¬x ¬y ¬z = asked_none b ¬x ¬y (λ is e. ¬z (omega (arith, good_z 256 q good is)))

    pub asked_pair : z_missing q ≡ true → (b : ℕ) → (b ≡ q.x → ⊥) → (b ≡ q.y → ⊥) → given_code q s b ≡ 2
    asked_pair missing b ¬x ¬y = asked_none b ¬x ¬y (λ is. absurd (true≢false (sym missing ∙ is)))

-- what the tests of a box tell
pub ruleset asked = (asked_passed, asked_x, asked_y, asked_z, asked_other, asked_pair, nat_tests)
