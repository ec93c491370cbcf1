-- A record at rest gives no open box a state: one computed test for each box.
-- Assumes nothing.
use mathlib.Core.Path.{◌≡◌, refl}
use mathlib.Core.Bool.{Bool, true, cond, ◌&&◌}
use mathlib.Core.List.{List}
use Prim.Native.Nat.{ℕ}
use borrow.Author.Tests.{eq-eqb}
use lib.Dec.{eqb}
use lib.ListN.{get_or}
use Rattle.spec.specs.Kinds.{kind_of}
use Rattle.spec.specs.Rules.{rules_of}
use Rattle.spec.specs.Records.{box_at, lacks_z}
use Rattle.spec.specs.Facts.{holds}
use Rattle.spec.specs.Rounds.{has, names, gives, follows, code, round, closed}
use Rattle.fire.specs.States.{three, OnSheet, closed_alone, counted, Rests}
use Rattle.fire.proofs.Agree.{AtKinds, SameAbove, kinds_same}
use Rattle.why.specs.Given.{given_alone}

-- three states are the same
abbrev same_three : List ℕ → (x y z : ℕ) → Bool
same_three l x y z = eqb (get_or l 0 2) x && eqb (get_or l 1 2) y && eqb (get_or l 2 2) z

-- what box b is given where the record is at rest and the box is open; else nothing
abbrev at_rest : (b kind x y z : ℕ) → ℕ
at_rest b kind x y z =
    cond (same_three (closed_alone kind x y (counted kind z)) x y (counted kind z))
    (cond (eqb (get_or (three x y (counted kind z)) b 2) 2) (given_alone b kind x y (counted kind z)) 2) 2

abbrev nothing : (kind x y z : ℕ) → ℕ
nothing kind x y z = 2

x_kinds : AtKinds (at_rest 0) ≡ AtKinds nothing
unfolding kind_of lacks_z rules_of box_at holds has names gives follows code round closed
x_kinds = refl

x_above : SameAbove (at_rest 0) nothing
unfolding kind_of lacks_z rules_of box_at holds has names gives follows code round closed
x_above k = refl

y_kinds : AtKinds (at_rest 1) ≡ AtKinds nothing
unfolding kind_of lacks_z rules_of box_at holds has names gives follows code round closed
y_kinds = refl

y_above : SameAbove (at_rest 1) nothing
unfolding kind_of lacks_z rules_of box_at holds has names gives follows code round closed
y_above k = refl

z_kinds : AtKinds (at_rest 2) ≡ AtKinds nothing
unfolding kind_of lacks_z rules_of box_at holds has names gives follows code round closed
z_kinds = refl

z_above : SameAbove (at_rest 2) nothing
unfolding kind_of lacks_z rules_of box_at holds has names gives follows code round closed
z_above k = refl

module _ (kind : ℕ) {x y z : ℕ} (sheet : OnSheet x y z) (rests : Rests kind x y z) where
  same : same_three (closed_alone kind x y (counted kind z)) x y (counted kind z) ≡ true
  same = rw (rests, eq-eqb x x refl, eq-eqb y y refl, eq-eqb (counted kind z) (counted kind z) refl)

  pub rest_x : x ≡ 2 → given_alone 0 kind x y (counted kind z) ≡ 2
  rest_x e = rw (same, eq-eqb x 2 e) at (kinds_same (at_rest 0) nothing x_kinds x_above kind sheet)

  pub rest_y : y ≡ 2 → given_alone 1 kind x y (counted kind z) ≡ 2
  rest_y e = rw (same, eq-eqb y 2 e) at (kinds_same (at_rest 1) nothing y_kinds y_above kind sheet)

  pub rest_z : counted kind z ≡ 2 → given_alone 2 kind x y (counted kind z) ≡ 2
  rest_z e = rw (same, eq-eqb (counted kind z) 2 e) at (kinds_same (at_rest 2) nothing z_kinds z_above kind sheet)
