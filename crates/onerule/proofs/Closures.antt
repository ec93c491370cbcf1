-- An entry of the one-rule table is the closure of its facts under its kind's rules alone.
-- Assumes nothing.
use mathlib.Core.Logic.{◌↔◌}
use mathlib.Core.Bool.{Bool}
use mathlib.Core.List.Memᴰ
use mathlib.Core.List.{[], ◌∷◌}
use Prim.Native.Nat.{ℕ, zero, suc, ◌<◌}
use native.Mathlib.Omega.{arith}
use lib.Dec.{T}
use lib.ListN.{length}
use Rattle.spec.specs.Kinds.{Place, X, Y, Z}
use Rattle.spec.specs.Records.{box_at}
use Rattle.spec.specs.Facts.{holds, Closure}
use Rattle.spec.specs.OneRule.{alone, record_of, states_of, outcome}
use Rattle.spec.proofs.Codes.{Codes}
use Rattle.spec.proofs.Named.{Within}
use Rattle.spec.proofs.Closed.{closed_closure}
use Rattle.onerule.specs.Index.{index_of, Coded}
use Rattle.onerule.proofs.Outcomes.{entry_closed}
use Rattle.onerule.proofs.Places.{index_record, index_states}

pub states_codes : (k : ℕ) → Codes (states_of k)
unfolding states_of
states_codes k zero = omega arith
states_codes k (suc zero) = omega arith
states_codes k (suc (suc zero)) = omega arith
states_codes k (suc (suc (suc b))) = omega arith

box_within : (k : ℕ) (p : Place) → box_at (record_of k) p < length (states_of k)
unfolding box_at record_of states_of
box_within k X = omega arith
box_within k Y = omega arith
box_within k Z = omega arith

pub record_within : (k : ℕ) → Within (length (states_of k)) (record_of k ∷ [])
record_within k q m r n l o = rw (Memᴰ.eq_of_singleton m) (box_within k l.place)

-- entry k
pub entry_closure : (k : ℕ) → k < 256 → (b : ℕ) (state : Bool) →
    T (holds (states_of (outcome k)) b state) ↔ Closure (record_of k ∷ []) (states_of k) b state
entry_closure k h b state =
    rw (entry_closed k h) (closed_closure (record_of k ∷ []) (states_of k) (states_codes k) (record_within k) b state)

-- the entry for x, y, z in states a, b, c
pub outcome_closure : {kind a b c : ℕ} → Coded kind a b c → (box : ℕ) (state : Bool) →
    T (holds (states_of (outcome (index_of kind a b c))) box state) ↔ Closure (alone kind ∷ []) (a ∷ b ∷ c ∷ []) box state
outcome_closure {kind} {a} {b} {c} h box state =
    rw (index_record h, index_states h) at (entry_closure (index_of kind a b c) (omega arith) box state)
