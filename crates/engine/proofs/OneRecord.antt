-- One record fires: from the states that `fire` gives to what the step answers.
-- Assumes nothing.
use mathlib.Core.Path.{◌≡◌, refl, sym, ap, subst, ◌∙◌}
use mathlib.Core.Bool.{Bool, true, false, cond}
use mathlib.Core.List.Memᴰ
use mathlib.Core.List.{List, [], ◌∷◌}
use Prim.Native.Nat.{ℕ, ◌≤◌, ◌<◌}
use native.Mathlib.Omega.{arith}
use native.Mathlib.Decide.{ℕ_discrete}
use lib.Dec.{T}
use lib.ListN.{get_or, set}
use lib.Seq.{get_or-set_other}
use Rattle.spec.specs.Kinds.{Place, X, Y, Z, kind_of}
use Rattle.spec.specs.Records.{Rec, box_at, lacks_z}
use Rattle.spec.specs.OneRule.{alone}
use Rattle.theory.specs.Steps.{IsSheet, Stable, Grown, z_missing, state_z, states_at, with_states}
use Rattle.theory.proofs.Places.{Names, named, named_names, good_kind, good_apart, good_x, good_y, good_z}
use Rattle.theory.proofs.Storing.{store_still}
use Rattle.theory.proofs.Stepping.{RecordFires, sheet_three, states_sheet, new_read, new_keeps, new_sound, step_grown, step_stable}
use Rattle.theory.proofs.Measure.{grown_kept}
use Rattle.fire.specs.States.{three, OnSheet, closed_alone, counted, Rests}
use Rattle.engine.specs.Moves.{Cells}
use Rattle.index.specs.Index.{rule_of}
use Rattle.engine.specs.Queue.{Queued, Settling, StepInput, Fired}
use Rattle.engine.proofs.Queueing.{queued_refl, queued_trans}
use Rattle.engine.proofs.Settled.{SettledTo, cells_read, settle_lent}

-- the record alone fires, on the engine's states
abbrev pub Fires : Rec → List ℕ → (x' y' z' : ℕ) → Type 0
Fires q s x' y' z' = RecordFires (q ∷ []) 256 q s x' y' z'

-- a rule's z, where its kind has one
pub rule_z : (kind x y z : ℕ) → z_missing (rule_of kind x y z) ≡ false → (rule_of kind x y z).z ≡ z
unfolding rule_of
rule_z kind x y z there = rw there

-- the state that is read for it
pub rule_state_z : (kind x y z : ℕ) {s : List ℕ} → Cells s → z < 256 →
    state_z (rule_of kind x y z) s ≡ counted kind (get_or s z 0)
unfolding state_z rule_of
rule_state_z kind x y z {s} cells below = at (lacks_z (kind_of kind))
  where
    at : (missing : Bool) → cond missing 2 (get_or s (cond missing 65535 z) 2) ≡ cond missing 2 (get_or s z 0)
    at true = refl
    at false = sym (cells_read cells z below)

-- a z that is there is read
there_state : (q : Rec) (s : List ℕ) → z_missing q ≡ false → state_z q s ≡ get_or s q.z 2
unfolding state_z
there_state q s there = rw there

module _ {q : Rec} {s queue : List ℕ} {tail : ℕ} (input : StepInput q s queue tail) where
  -- the indices that a step reads
  x_below : q.x < 256
  x_below = good_x 256 q input.good

  y_below : q.y < 256
  y_below = good_y 256 q input.good

  z_below : {z : ℕ} → q.z ≡ z → z_missing q ≡ false → z < 256
  z_below is there = omega (arith, good_z 256 q input.good there)

  read : (b : ℕ) → b < 256 → get_or s b 0 ≡ get_or s b 2
  read = cells_read input.lent.cells

  state_below : (b : ℕ) → b < 256 → get_or s b 0 ≤ 2
  state_below b h = rw (read b h) (input.lent.cells.sheet b)

  names : (p : Place) → T (named (kind_of q.kind) p) → Names q p
  names = named_names q (good_kind 256 q input.good)

  -- no two of its boxes are equal
  y_not_x : q.y ≡ q.x → ⊥
  unfolding box_at
  y_not_x e =
      let same : Y ≡ X = good_apart 256 q input.good Y X (names Y tt) (names X tt) e in
      let z : ◌≡◌ {A = ℕ} 0 1 = cc in
      omega arith

  z_not_x : z_missing q ≡ false → q.z ≡ q.x → ⊥
  unfolding box_at
  z_not_x there e =
      let same : Z ≡ X = good_apart 256 q input.good Z X (names Z (rw there tt)) (names X tt) e in
      let z : ◌≡◌ {A = ℕ} 0 1 = cc in
      omega arith

  z_not_y : z_missing q ≡ false → q.z ≡ q.y → ⊥
  unfolding box_at
  z_not_y there e =
      let same : Z ≡ Y = good_apart 256 q input.good Z Y (names Z (rw there tt)) (names Y tt) e in
      let z : ◌≡◌ {A = ℕ} 0 1 = cc in
      omega arith

  -- `fire` of the three states read
  pub fires_read : (z x' y' z' : ℕ) → state_z q s ≡ z → three x' y' z' ≡ closed_alone q.kind (get_or s q.x 0) (get_or s q.y 0) z →
      Fires q s x' y' z'
  fires_read z x' y' z' was e =
      record {
        member = Memᴰ.head refl;
        good = input.good;
        room = omega (arith, input.lent.cells.size);
        sheet = input.lent.cells.sheet;
        new = new_read 256 q s x' y' z' input.good (omega (arith, input.lent.cells.size)) (rw was e);
      }

  module _ {x' y' z' : ℕ} (firing : Fires q s x' y' z') (sheet : IsSheet (three x' y' z')) where
    -- the new states are stored
    stored_fired : {t queue' : List ℕ} {tail' : ℕ} → with_states q x' y' z' s ≡ t → Queued s t queue queue' tail tail' →
        Fired q s t queue queue' tail tail'
    stored_fired e grew =
        record {
          grown = subst (λ (t : List ℕ). Grown (q ∷ []) s t) e (step_grown firing sheet);
          stable = subst (λ (t : List ℕ). Stable q t) e (step_stable firing);
          queued = grew;
        }

    states_grown : Grown (alone q.kind ∷ []) (states_at q s) (three x' y' z')
    states_grown = record { size = refl; keeps = new_keeps firing; derived = new_sound firing; sheet = sheet }

    -- a state that is new was open
    was_open : (i : ℕ) → (get_or (states_at q s) i 2 ≡ get_or (three x' y' z') i 2 → ⊥) → get_or (states_at q s) i 2 ≡ 2
    was_open i differ = at (ℕ_discrete (get_or (states_at q s) i 2) 2)
      where
        at : Dec (get_or (states_at q s) i 2 ≡ 2) → get_or (states_at q s) i 2 ≡ 2
        at (yes e) = e
        at (no e) = absurd (differ (sym (grown_kept states_grown (states_sheet q s firing.sheet) i e)))

    -- the boxes are settled one by one; the state of the next is still as it was read
    pub settling_x : Settling s queue tail q.x x'
    settling_x = record { lent = input.lent; below = x_below; settled = sheet 0; opens = was_open 0 }

    module _ {t queue' : List ℕ} {tail' : ℕ} (first : SettledTo s t queue queue' tail tail' q.x x') where
      still_y : get_or t q.y 2 ≡ get_or s q.y 2
      still_y = ap (λ (l : List ℕ). get_or l q.y 2) first.0 ∙ get_or-set_other s q.x q.y x' 2 y_not_x

      pub settling_y : Settling t queue' tail' q.y y'
      settling_y =
          record {
            lent = settle_lent settling_x first;
            below = y_below;
            settled = sheet 1;
            opens = λ differ. still_y ∙ was_open 1 (λ e. differ (still_y ∙ e));
          }

      module _ {u queue'' : List ℕ} {tail'' : ℕ} (second : SettledTo t u queue' queue'' tail' tail'' q.y y') where
        pair_stored : u ≡ set (set s q.x x') q.y y'
        pair_stored = second.0 ∙ ap (λ (l : List ℕ). set l q.y y') first.0

        both_queued : Queued s u queue queue'' tail tail''
        both_queued = queued_trans first.1 second.1

        pub pair_fired : z_missing q ≡ true → Fired q s u queue queue'' tail tail''
        unfolding with_states
        pair_fired missing = stored_fired (rw missing (sym pair_stored)) both_queued

        pub settling_z : {z : ℕ} → q.z ≡ z → z_missing q ≡ false → Settling u queue'' tail'' z z'
        settling_z {z} is there =
            record {
              lent = settle_lent settling_y second;
              below = z_below is there;
              settled = sheet 2;
              opens = λ differ. still_z ∙ was_open 2 (λ e. differ (still_z ∙ e));
            }
          where
            still_z : get_or u z 2 ≡ state_z q s
            still_z =
                ap (λ (l : List ℕ). get_or l z 2) pair_stored
                ∙ get_or-set_other (set s q.x x') q.y z y' 2 (λ e. z_not_y there (is ∙ e))
                ∙ get_or-set_other s q.x z x' 2 (λ e. z_not_x there (is ∙ e))
                ∙ ap (λ (b : ℕ). get_or s b 2) (sym is)
                ∙ sym (there_state q s there)

        pub triple_fired : {z : ℕ} → q.z ≡ z → z_missing q ≡ false → {v queue''' : List ℕ} {tail''' : ℕ} →
            SettledTo u v queue'' queue''' tail'' tail''' z z' → Fired q s v queue queue''' tail tail'''
        unfolding with_states
        triple_fired {z} is there third =
            stored_fired
            (rw (there, is) (sym (third.0 ∙ ap (λ (l : List ℕ). set l z z') pair_stored)))
            (queued_trans both_queued third.1)

  -- the states read are their own closure: nothing changes
  pub rest_fired : (z : ℕ) → state_z q s ≡ z →
      closed_alone q.kind (get_or s q.x 0) (get_or s q.y 0) z ≡ three (get_or s q.x 0) (get_or s q.y 0) z →
      Fired q s s queue queue tail tail
  rest_fired z was rests =
      stored_fired
      (fires_read z (get_or s q.x 0) (get_or s q.y 0) z was (sym rests))
      (sheet_three _ _ _ (state_below q.x x_below) (state_below q.y y_below)
      (omega (arith, was, states_sheet q s input.lent.cells.sheet 2)))
      (store_still q _ _ z s (read q.x x_below) (read q.y y_below) (sym was))
      (queued_refl s queue tail)

-- a look at the three states of a rule, where a z that is missing may be any box
module _ (kind x y z : ℕ) {s queue : List ℕ} {tail : ℕ} (input : StepInput (rule_of kind x y z) s queue tail) (below : z < 256) where
  pub look_x : x < 256
  unfolding rule_of
  look_x = x_below input

  pub look_y : y < 256
  unfolding rule_of
  look_y = y_below input

  pub look_states : OnSheet (get_or s x 0) (get_or s y 0) (get_or s z 0)
  look_states =
      record { x_state = state_below input x look_x; y_state = state_below input y look_y; z_state = state_below input z below }

  pub look_fired : Rests kind (get_or s x 0) (get_or s y 0) (get_or s z 0) → Fired (rule_of kind x y z) s s queue queue tail tail
  unfolding rule_of
  look_fired rests = rest_fired input _ (rule_state_z kind x y z input.lent.cells below) rests
