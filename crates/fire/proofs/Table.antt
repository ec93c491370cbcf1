-- The one-rule table and the match: they agree at every entry whose three states a sheet can have.
-- Assumes nothing.
use mathlib.Core.Path.{◌≡◌, ap, sym}
use Prim.Native.Nat.{ℕ, ◌+◌, ◌*◌, ◌-◌, ◌/◌, ◌%◌, ◌≤◌}
use native.Mathlib.Omega.{arith}
use Rattle.spec.specs.OneRule.{record_of, states_of, packed, outcome}
use Rattle.fire.specs.declared.States.{States}
use Rattle.fire.specs.States.{OnSheet, Fired}
use Rattle.fire.proofs.Tree.{tree}
use Rattle.fire.proofs.Agree.{tree_closed}

-- an entry, at the states that its number tells
pub outcome_tree : (k : ℕ) → OnSheet (k / 16 % 4) (k / 4 % 4) (k % 4) →
    outcome k ≡ packed (tree (k / 64 + 1) (k / 16 % 4) (k / 4 % 4) (k % 4))
unfolding outcome record_of states_of
outcome_tree k s = ap packed (sym (tree_closed (k / 64 + 1) s))

-- what is fired is what the table holds for that kind and those states
pub fired_entry : {kind x y z : ℕ} {r : States} → 1 ≤ kind → OnSheet x y z → Fired kind x y z r →
    outcome (64 * (kind - 1) + 16 * x + 4 * y + z) ≡ 16 * r.x + 4 * r.y + r.z
unfolding outcome record_of states_of packed
fired_entry {kind} {x} {y} {z} {r} l s f =
    let k : ℕ = 64 * (kind - 1) + 16 * x + 4 * y + z in
    let at_kind : k / 64 + 1 ≡ kind = omega arith in
    let at_x : k / 16 % 4 ≡ x = omega arith in
    let at_y : k / 4 % 4 ≡ y = omega arith in
    let at_z : k % 4 ≡ z = omega arith in
    rw (at_kind, at_x, at_y, at_z) (ap packed (sym f.closure))
