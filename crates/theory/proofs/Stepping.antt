-- One record fires: what that, and storing its new states, does to a list of states.
-- Assumes nothing.
use mathlib.Core.Path.{◌≡◌, refl, sym, subst⁻¹}
use mathlib.Core.Logic.{⊎_elim}
use mathlib.Core.Bool.{Bool, true, false, cond}
use mathlib.Core.List.Memᴰ
use mathlib.Core.List.{List, [], ◌∷◌, Memᴰ}
use Prim.Native.Nat.{ℕ, zero, suc, ◌≤◌, ◌<◌}
use native.Mathlib.Omega.{arith}
use lib.Dec.{T}
use lib.ListN.{length, get_or}
use Rattle.lemmas.proofs.Reading.{get_d_default}
use Rattle.spec.specs.Kinds.{Place}
use Rattle.spec.specs.Records.{Rec, box_at, bad}
use Rattle.spec.specs.Facts.{FactsOf, Closure, Clash, settled, holds}
use Rattle.spec.specs.Rounds.{closed}
use Rattle.spec.specs.OneRule.{alone}
use Rattle.spec.proofs.Least.{Inside}
use Rattle.spec.proofs.Named.{Within}
use Rattle.spec.proofs.Codes.{Codes}
use Rattle.spec.proofs.Closed.{closed_codes, closed_keeps, closed_sound, closed_closed}
use Rattle.theory.specs.Steps.{IsSheet, Stable, Grown, z_missing, state_z, states_at, NewStates, with_states}
use Rattle.theory.proofs.States.{sheet_codes, holds_same, both_holds}
use Rattle.theory.proofs.Places.{Names, alone_below, good_x, good_y}
use Rattle.theory.proofs.Stability.{stable_moved}
use Rattle.theory.proofs.Storing.{store_size, store_cases, store_at}
use Rattle.theory.proofs.Embedding.{states_at_lem, one_carried, one_closure}

-- three states of a sheet
pub sheet_three : (x y z : ℕ) → x ≤ 2 → y ≤ 2 → z ≤ 2 → IsSheet (x ∷ y ∷ z ∷ [])
sheet_three x y z hx hy hz zero = hx
sheet_three x y z hx hy hz (suc zero) = hy
sheet_three x y z hx hy hz (suc (suc zero)) = hz
sheet_three x y z hx hy hz (suc (suc (suc b))) = omega arith

-- what is read from a sheet is one
pub states_sheet : (q : Rec) (s : List ℕ) → IsSheet s → IsSheet (states_at q s)
unfolding state_z
states_sheet q s sheet = sheet_three _ _ _ (sheet q.x) (sheet q.y) (at (z_missing q))
  where
    at : (missing : Bool) → cond missing 2 (get_or s q.z 2) ≤ 2
    at true = omega arith
    at false = sheet q.z

alone_within : (kind : ℕ) → Within 3 (alone kind ∷ [])
alone_within kind q m r n l c =
    subst⁻¹ (λ (q' : Rec). box_at q' l.place < 3) (Memᴰ.eq_of_singleton m) (alone_below kind l.place)

-- no box past the end is read, so it is no matter that code reads 0 there
pub new_read : (n : ℕ) (q : Rec) (s : List ℕ) (x' y' z' : ℕ) → bad n q ≡ false → n ≤ length s →
    (x' ∷ y' ∷ z' ∷ []) ≡ closed (alone q.kind ∷ []) (get_or s q.x 0 ∷ get_or s q.y 0 ∷ state_z q s ∷ []) → NewStates q s x' y' z'
new_read n q s x' y' z' good room e =
    rw (
      get_d_default s q.x 2 0 (omega (arith, good_x n q good)),
      get_d_default s q.y 2 0 (omega (arith, good_y n q good)),
    ) e

-- a record of qs that is not bad is fired on a sheet; x' y' z' are its new states
pub record RecordFires (qs : List Rec) (n : ℕ) (q : Rec) (s : List ℕ) (x' y' z' : ℕ) : Type 0 where
  pub member : Memᴰ q qs
  pub good : bad n q ≡ false
  pub room : n ≤ length s
  pub sheet : IsSheet s
  pub new : NewStates q s x' y' z'

module _ {qs : List Rec} {n : ℕ} {q : Rec} {s : List ℕ} {x' y' z' : ℕ} (firing : RecordFires qs n q s x' y' z') where
  old_codes : Codes (states_at q s)
  old_codes = sheet_codes (states_at q s) (states_sheet q s firing.sheet)

  -- no new state is above 3
  pub new_codes : Codes (x' ∷ y' ∷ z' ∷ [])
  new_codes = subst⁻¹ Codes firing.new (closed_codes (alone q.kind ∷ []) (states_at q s) old_codes)

  -- so without a 3 the new states are those of a sheet
  pub new_sheet : (x' ≡ 3 → ⊥) → (y' ≡ 3 → ⊥) → (z' ≡ 3 → ⊥) → IsSheet (x' ∷ y' ∷ z' ∷ [])
  new_sheet ¬x ¬y ¬z =
      sheet_three x' y' z'
      (omega (arith, new_codes 0))
      (omega (arith, new_codes 1))
      (omega (arith, new_codes 2))

  -- no fact is lost, and none is made up
  pub new_keeps : Inside (FactsOf (states_at q s)) (FactsOf (x' ∷ y' ∷ z' ∷ []))
  new_keeps =
      subst⁻¹ (λ (t : List ℕ). Inside (FactsOf (states_at q s)) (FactsOf t)) firing.new
      (closed_keeps (alone q.kind ∷ []) (states_at q s))

  pub new_sound : Inside (FactsOf (x' ∷ y' ∷ z' ∷ [])) (Closure (alone q.kind ∷ []) (states_at q s))
  new_sound =
      subst⁻¹ (λ (t : List ℕ). Inside (FactsOf t) (Closure (alone q.kind ∷ []) (states_at q s))) firing.new
      (closed_sound (alone q.kind ∷ []) (states_at q s))

  -- the record alone is stable
  new_stable : Stable (alone q.kind) (x' ∷ y' ∷ z' ∷ [])
  new_stable =
      subst⁻¹ (λ (t : List ℕ). Stable (alone q.kind) t) firing.new
      (closed_closed (alone q.kind ∷ []) (states_at q s) old_codes (alone_within q.kind))

  -- a new state that is 3 is a clash
  pub step_clash : (i : ℕ) → get_or (x' ∷ y' ∷ z' ∷ []) i 2 ≡ 3 → (b : ℕ) × Clash qs s b
  step_clash i e =
      let fact : (state : Bool) → _ = λ state. new_sound i state (both_holds (x' ∷ y' ∷ z' ∷ []) i e state) in
      let out = one_carried qs s q firing.member n firing.good i false (fact false) in
      (box_at q out.0, (out.3, one_closure qs s q firing.member n firing.good out.0 true (rw out.1 at (fact true))))

  -- what is stored at a named box, and what was there
  new_at : (p : Place) → Names q p → (state : Bool) →
      holds (with_states q x' y' z' s) (box_at q p) state ≡ holds (x' ∷ y' ∷ z' ∷ []) (box_at (alone q.kind) p) state
  new_at p m = holds_same (with_states q x' y' z' s) (x' ∷ y' ∷ z' ∷ []) _ _ (store_at q x' y' z' s n firing.good firing.room p m)

  old_at : (p : Place) → Names q p → (state : Bool) →
      holds (states_at q s) (box_at (alone q.kind) p) state ≡ holds s (box_at q p) state
  old_at p m = holds_same (states_at q s) s _ _ (states_at_lem q s n firing.good p m)

  -- once it has fired a record is stable
  pub step_stable : Stable q (with_states q x' y' z' s)
  step_stable =
      stable_moved (alone q.kind) q (x' ∷ y' ∷ z' ∷ []) (with_states q x' y' z' s) refl
      (λ p m. sym (store_at q x' y' z' s n firing.good firing.room p m))
      new_stable

  -- what holds of the new states at every named box, and of the old at every other, holds at every box
  everywhere : (P : ℕ → Type 0) →
      ((p : Place) → Names q p → P (box_at q p)) →
      ((b : ℕ) → get_or (with_states q x' y' z' s) b 2 ≡ get_or s b 2 → P b) →
      (b : ℕ) → P b
  everywhere P here there b =
      ⊎_elim
      (λ found. subst⁻¹ P found.2 (here found.0 found.1))
      (there b)
      (store_cases q x' y' z' s n firing.good b)

  -- where no new state is 3 the list has grown
  pub step_grown : IsSheet (x' ∷ y' ∷ z' ∷ []) → Grown qs s (with_states q x' y' z' s)
  step_grown new =
      record {
        size = store_size q x' y' z' s;
        keeps = λ b state. everywhere (λ c. T (holds s c state) → T (holds (with_states q x' y' z' s) c state))
            (λ p m t. rw (new_at p m state) (new_keeps _ state (rw (old_at p m state) t)))
            (λ c e t. rw (holds_same (with_states q x' y' z' s) s c c e state) t)
            b;
        derived = λ b state. everywhere (λ c. T (holds (with_states q x' y' z' s) c state) → Closure qs s c state)
            (λ p m t. one_closure qs s q firing.member n firing.good p state (new_sound _ state (rw (new_at p m state) at t)))
            (λ c e t. settled (rw (holds_same (with_states q x' y' z' s) s c c e state) at t))
            b;
        sheet = everywhere (λ c. get_or (with_states q x' y' z' s) c 2 ≤ 2)
            (λ p m. rw (store_at q x' y' z' s n firing.good firing.room p m) (new (box_at (alone q.kind) p)))
            (λ c e. rw e (firing.sheet c));
      }
