-- The code's matches as definitions that compute, and what they give: one computed test for each box of a record.
-- Assumes nothing.
use mathlib.Core.Path.{◌≡◌, refl, sym}
use mathlib.Core.Bool.{Bool, cond}
use Prim.Native.Nat.{ℕ}
use lib.Dec.{eqb}
use Rattle.spec.specs.Kinds.{Kind, EQU, NOT, AND, OR, other, kind_of}
use Rattle.spec.specs.Rules.{rules_of}
use Rattle.spec.specs.Records.{box_at, lacks_z}
use Rattle.spec.specs.Facts.{holds}
use Rattle.spec.specs.Rounds.{has, names, gives, code}
use Rattle.fire.specs.States.{OnSheet, counted}
use Rattle.fire.proofs.Agree.{AtKinds, SameAbove, kinds_same}
use Rattle.why.specs.Given.{given_alone}

abbrev out : ℕ → Bool
out state = eqb state 0

abbrev in' : ℕ → Bool
in' state = eqb state 1

-- x by y and z, and y by x and z
abbrev pub side_of : Kind → (y z : ℕ) → ℕ
side_of EQU y z = y
side_of NOT y z = cond (out y) 1 (cond (in' y) 0 2)
side_of AND y z = cond (in' z) 1 (cond (out z) (cond (in' y) 0 2) 2)
side_of OR y z = cond (out z) 0 (cond (in' z) (cond (out y) 1 2) 2)
side_of other y z = 2

abbrev pub side_tree : (kind y z : ℕ) → ℕ
side_tree kind = side_of (kind_of kind)

-- z by x and y
abbrev pub z_of : Kind → (x y : ℕ) → ℕ
z_of EQU x y = 2
z_of NOT x y = 2
z_of AND x y = cond (out x) 0 (cond (in' x) y (cond (out y) 0 2))
z_of OR x y = cond (in' x) 1 (cond (out x) y (cond (in' y) 1 2))
z_of other x y = 2

abbrev pub z_tree : (kind x y : ℕ) → ℕ
z_tree kind = z_of (kind_of kind)

abbrev x_gets : (kind x y z : ℕ) → ℕ
x_gets kind x y z = side_tree kind y z

abbrev y_gets : (kind x y z : ℕ) → ℕ
y_gets kind x y z = side_tree kind x z

abbrev z_gets : (kind x y z : ℕ) → ℕ
z_gets kind x y z = z_tree kind x y

x_kinds : AtKinds x_gets ≡ AtKinds (given_alone 0)
unfolding kind_of rules_of box_at holds has names gives code
x_kinds = refl

x_above : SameAbove x_gets (given_alone 0)
unfolding kind_of rules_of box_at holds has names gives code
x_above k = refl

y_kinds : AtKinds y_gets ≡ AtKinds (given_alone 1)
unfolding kind_of rules_of box_at holds has names gives code
y_kinds = refl

y_above : SameAbove y_gets (given_alone 1)
unfolding kind_of rules_of box_at holds has names gives code
y_above k = refl

z_kinds : AtKinds z_gets ≡ AtKinds (given_alone 2)
unfolding kind_of rules_of box_at holds has names gives code
z_kinds = refl

z_above : SameAbove z_gets (given_alone 2)
unfolding kind_of rules_of box_at holds has names gives code
z_above k = refl

-- the state of the box itself is of no matter
pub x_gets_lem : (kind : ℕ) {x y z : ℕ} → OnSheet x y z → side_tree kind y z ≡ given_alone 0 kind x y z
x_gets_lem = kinds_same x_gets (given_alone 0) x_kinds x_above

pub y_gets_lem : (kind : ℕ) {x y z : ℕ} → OnSheet x y z → side_tree kind x z ≡ given_alone 1 kind x y z
y_gets_lem = kinds_same y_gets (given_alone 1) y_kinds y_above

pub z_gets_lem : (kind : ℕ) {x y z : ℕ} → OnSheet x y z → z_tree kind x y ≡ given_alone 2 kind x y z
z_gets_lem = kinds_same z_gets (given_alone 2) z_kinds z_above

pub side_given : (kind : ℕ) {x y z : ℕ} → OnSheet x y z → given_alone 0 kind x y z ≡ side_of (kind_of kind) y z
side_given kind s = sym (x_gets_lem kind s)

pub z_given : (kind : ℕ) {x y z : ℕ} → OnSheet x y z → given_alone 2 kind x y z ≡ z_of (kind_of kind) x y
z_given kind s = sym (z_gets_lem kind s)

-- and so is a z that the kind has not
z_counted : AtKinds x_gets ≡ AtKinds (λ kind x y z. side_tree kind y (counted kind z))
unfolding kind_of lacks_z
z_counted = refl

z_counted_above : SameAbove x_gets (λ kind x y z. side_tree kind y (counted kind z))
unfolding kind_of lacks_z
z_counted_above k = refl

pub side_counted : (kind : ℕ) {x y z : ℕ} → OnSheet x y z → side_tree kind y z ≡ side_tree kind y (counted kind z)
side_counted = kinds_same x_gets (λ kind x y z. side_tree kind y (counted kind z)) z_counted z_counted_above
