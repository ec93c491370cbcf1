-- What one rule gives, of a record that stands alone on the boxes 0, 1, 2.
-- Assumes nothing.
use Rattle.std.specs.Prelude.{false, true, ℕ}
use Rattle.lemmas.specs.Lists.{any}
use Rattle.spec.specs.Kinds.{kind_of}
use Rattle.spec.specs.Rules.{rules_of}
use Rattle.spec.specs.Rounds.{gives, code}
use Rattle.spec.specs.OneRule.{alone}
use Rattle.fire.specs.States.{three}

-- the state that one rule of this kind gives box b; open where none gives it one
abbrev pub given_alone : (b kind x y z : ℕ) → ℕ
given_alone b kind x y z =
    code (any (gives (three x y z) b false (alone kind)) (rules_of (kind_of kind)))
    (any (gives (three x y z) b true (alone kind)) (rules_of (kind_of kind)))
