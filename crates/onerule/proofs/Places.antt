-- The index of a kind and three states, read back: the record is of that kind, and its boxes have these states.
-- Assumes nothing.
use mathlib.Core.Path.{◌≡◌}
use mathlib.Core.List.{[], ◌∷◌}
use Prim.Native.Nat.{ℕ, ◌+◌, ◌/◌, ◌%◌}
use native.Mathlib.Omega.{arith}
use Rattle.spec.specs.OneRule.{alone, record_of, states_of}
use Rattle.onerule.specs.Index.{index_of, Coded}

module _ {kind a b c : ℕ} (h : Coded kind a b c) where
  pub index_record : record_of (index_of kind a b c) ≡ alone kind
  unfolding record_of
  index_record =
      let e : index_of kind a b c / 64 + 1 ≡ kind = omega arith in
      λ i. alone (e i)

  pub index_states : states_of (index_of kind a b c) ≡ a ∷ b ∷ c ∷ []
  unfolding states_of
  index_states =
      let x : index_of kind a b c / 16 % 4 ≡ a = omega arith in
      let y : index_of kind a b c / 4 % 4 ≡ b = omega arith in
      let z : index_of kind a b c % 4 ≡ c = omega arith in
      λ i. x i ∷ y i ∷ z i ∷ []
