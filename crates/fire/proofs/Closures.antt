-- What the closure under one record alone looks like: a z that its kind has not is of no matter, and where x is not both facts no box
-- is. Each is one computed test over the kinds and all states of a sheet.
-- Assumes nothing.
use mathlib.Core.Path.{◌≡◌, refl, ap, ◌∙◌}
use mathlib.Core.Bool.{Bool, true, false, cond}
use mathlib.Core.List.{List}
use Prim.Native.Nat.{ℕ, ◌≤◌}
use native.Mathlib.Omega.{arith}
use lib.Dec.{eqb}
use lib.ListN.{get_or}
use Rattle.spec.specs.Kinds.{kind_of}
use Rattle.spec.specs.Rules.{rules_of}
use Rattle.spec.specs.Records.{box_at, lacks_z}
use Rattle.spec.specs.Facts.{holds}
use Rattle.spec.specs.Rounds.{has, names, gives, follows, code, round, closed}
use Rattle.fire.specs.States.{three, OnSheet, closed_alone, counted}
use Rattle.fire.proofs.Agree.{AtKinds, SameAbove, kinds_same}

pub counted_sheet : (kind : ℕ) {x y z : ℕ} → OnSheet x y z → OnSheet x y (counted kind z)
counted_sheet kind {z = z} sheet =
    record { x_state = sheet.x_state; y_state = sheet.y_state; z_state = at (lacks_z (kind_of kind)) }
  where
    at : (missing : Bool) → cond missing 2 z ≤ 2
    at true = omega arith
    at false = sheet.z_state

-- three states with that z
abbrev counted_in : ℕ → List ℕ → List ℕ
counted_in kind l = three (get_or l 0 2) (get_or l 1 2) (counted kind (get_or l 2 2))

abbrev z_dropped : (kind x y z : ℕ) → List ℕ
z_dropped kind x y z = counted_in kind (closed_alone kind x y z)

abbrev z_open : (kind x y z : ℕ) → List ℕ
z_open kind x y z = closed_alone kind x y (counted kind z)

kinds_drop : AtKinds z_dropped ≡ AtKinds z_open
unfolding kind_of lacks_z rules_of box_at holds has names gives follows code round closed
kinds_drop = refl

above_drop : SameAbove z_dropped z_open
unfolding kind_of lacks_z rules_of box_at holds has names gives follows code round closed
above_drop k = refl

pub z_dropped_lem : (kind : ℕ) {x y z x' y' z' : ℕ} → OnSheet x y z → three x' y' z' ≡ closed_alone kind x y z →
    three x' y' (counted kind z') ≡ closed_alone kind x y (counted kind z)
z_dropped_lem kind sheet e = ap (counted_in kind) e ∙ kinds_same z_dropped z_open kinds_drop above_drop kind sheet

-- x where y is both facts, and where z is; else both facts
abbrev first_of : List ℕ → List ℕ
first_of l = three 3 (cond (eqb (get_or l 1 2) 3) (get_or l 0 2) 3) (cond (eqb (get_or l 2 2) 3) (get_or l 0 2) 3)

abbrev first_at : (kind x y z : ℕ) → List ℕ
first_at kind x y z = first_of (closed_alone kind x y z)

abbrev all_both : (kind x y z : ℕ) → List ℕ
all_both kind x y z = three 3 3 3

kinds_clash : AtKinds first_at ≡ AtKinds all_both
unfolding kind_of lacks_z rules_of box_at holds has names gives follows code round closed
kinds_clash = refl

above_clash : SameAbove first_at all_both
unfolding kind_of lacks_z rules_of box_at holds has names gives follows code round closed
above_clash k = refl

-- where one box is both facts, x is
pub clash_at_x : (kind : ℕ) {x y z x' y' z' : ℕ} → OnSheet x y z → three x' y' z' ≡ closed_alone kind x y z →
    (y' ≡ 3 → x' ≡ 3) × (z' ≡ 3 → x' ≡ 3)
clash_at_x kind {x} {y} {z} {x'} {y'} {z'} sheet e = (λ at. rw at at where_y, λ at. rw at at where_z)
  where
    all : first_of (three x' y' z') ≡ three 3 3 3
    all = ap first_of e ∙ kinds_same first_at all_both kinds_clash above_clash kind sheet

    where_y : cond (eqb y' 3) x' 3 ≡ 3
    where_y = ap (λ (l : List ℕ). get_or l 1 2) all

    where_z : cond (eqb z' 3) x' 3 ≡ 3
    where_z = ap (λ (l : List ℕ). get_or l 2 2) all
