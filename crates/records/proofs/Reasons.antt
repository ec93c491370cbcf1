-- Why a record is bad, in the order in which the code asks: first what may be wrong whatever its kind, then what may be wrong with its z.
-- Assumes nothing.
use mathlib.Core.Path.{◌≡◌, refl}
use mathlib.Core.Bool.{Bool, true, false, cond, not, ◌&&◌, ◌||◌}
use Prim.Native.Nat.{ℕ}
use native.Mathlib.Omega.{arith}
use lib.Dec.{leb, eqb}
use Rattle.std.specs.Prelude.{map}
use Rattle.lemmas.specs.Lists.{any}
use Rattle.spec.specs.Kinds as paper
use Rattle.spec.specs.Kinds.{EQU, NOT, AND, OR, other, kind_of, places_of}
use Rattle.spec.specs.Records.{Rec, box_at, boxes_of, no_kind, lacks_z, two_equal, bad}
use Rattle.records.specs.declared.kinds.Kind.{Kind}
use Rattle.records.specs.declared.kinds.Kind.TheVariants.{Equ, Not, And, Or}
use Rattle.records.specs.Kinds.{as_kind}

-- z is to be 65535 where the kind has none, and else a box like the others
abbrev pub z_wrong : ℕ → Rec → Bool → Bool
z_wrong n q missing = cond missing (not (eqb q.z 65535)) (leb n q.z || (eqb q.x q.z || eqb q.y q.z))

-- each kind of the code is a kind
pub is_real : (k : Kind) → no_kind (as_kind k) ≡ false
unfolding no_kind
is_real Equ = refl
is_real Not = refl
is_real And = refl
is_real Or = refl

pub is_none : no_kind other ≡ true
unfolding no_kind
is_none = refl

-- what is wrong with a record, question by question
pub reasons : (n : ℕ) (q : Rec) →
    bad n q
    ≡ (no_kind (kind_of q.kind)
    || (not (eqb q.byte1 0) || (leb n q.x || (leb n q.y || (eqb q.x q.y || z_wrong n q (lacks_z (kind_of q.kind)))))))
unfolding bad no_kind lacks_z boxes_of box_at places_of two_equal
reasons n q = at (kind_of q.kind)
  where
    at : (k : paper.Kind) →
        (no_kind k || not (eqb q.byte1 0) || any (leb n) (map (box_at q) (places_of k)) || (lacks_z k && not (eqb q.z 65535))
        || two_equal (map (box_at q) (places_of k)))
        ≡ (no_kind k || (not (eqb q.byte1 0) || (leb n q.x || (leb n q.y || (eqb q.x q.y || z_wrong n q (lacks_z k))))))
    at EQU = grind arith
    at NOT = grind arith
    at AND = grind arith
    at OR = grind arith
    at other = refl

pub ruleset why_bad = (reasons, is_real, is_none)
