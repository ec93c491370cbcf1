-- The bits tell where nothing follows: one computed test over the kinds and all states of a sheet.
-- Assumes nothing.
use mathlib.Core.Path.{◌≡◌, refl}
use mathlib.Core.Bool.{cond, true}
use mathlib.Core.List.{List}
use Prim.Native.Nat.{ℕ, ◌+◌, ◌*◌, ◌/◌, ◌%◌, ◌^◌}
use lib.Dec.{eqb}
use Rattle.spec.specs.Kinds.{kind_of}
use Rattle.spec.specs.Rules.{rules_of}
use Rattle.spec.specs.Records.{box_at, lacks_z}
use Rattle.spec.specs.Facts.{holds}
use Rattle.spec.specs.Rounds.{has, names, gives, follows, code, round, closed}
use Rattle.fire.specs.States.{three, OnSheet, closed_alone, counted, Rests, stirs_at}
use Rattle.fire.proofs.Agree.{AtKinds, SameAbove, kinds_same}

-- the bit of three states
abbrev bit_at : (bits x y z : ℕ) → ℕ
bit_at bits x y z = bits / 2 ^ (16 * x + 4 * y + z) % 2

-- the states that a record of this kind reads
abbrev read_by : (kind x y z : ℕ) → List ℕ
read_by kind x y z = three x y (counted kind z)

-- their closure, where the bit is 0
abbrev unstirred : (kind x y z : ℕ) → List ℕ
unstirred kind x y z =
    cond (eqb (bit_at (stirs_at kind) x y z) 0) (closed_alone kind x y (counted kind z)) (read_by kind x y z)

kinds_rest : AtKinds unstirred ≡ AtKinds read_by
unfolding kind_of lacks_z rules_of box_at holds has names gives follows code round closed
kinds_rest = refl

above_rest : SameAbove unstirred read_by
unfolding kind_of lacks_z rules_of box_at holds has names gives follows code round closed
above_rest k = refl

pub bit_rests : (kind : ℕ) {x y z : ℕ} → OnSheet x y z → eqb (bit_at (stirs_at kind) x y z) 0 ≡ true → Rests kind x y z
bit_rests kind sheet e = rw e at (kinds_same unstirred read_by kinds_rest above_rest kind sheet)
