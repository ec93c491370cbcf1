-- A record that is not bad is the rule of its kind on its boxes: byte 1 is 0, and where z is missing it is 65535.
-- Assumes nothing.
use mathlib.Core.Path.{◌≡◌, refl, sym}
use mathlib.Core.Bool.{Bool, true, false, cond, not, ◌&&◌, ◌||◌}
use Prim.Native.Nat.{ℕ, ◌<◌}
use borrow.Author.Tests.{eqb-true, not-false}
use lib.Dec.{eqb, leb}
use Rattle.lemmas.specs.Lists.{any}
use Rattle.lemmas.proofs.Tests.{or_false_left, or_false_right}
use Rattle.spec.specs.Kinds.{kind_of}
use Rattle.spec.specs.Records.{Rec, bad, boxes_of, no_kind, lacks_z}
use Rattle.theory.proofs.Places.{good_x, good_y, good_z}
use Rattle.index.specs.Index.{rule_of}

module _ (q : Rec) (good : bad 256 q ≡ false) where
  byte_zero : q.byte1 ≡ 0
  unfolding bad
  byte_zero =
      eqb-true _ _
      (not-false _ (or_false_right (no_kind (kind_of q.kind)) _ (or_false_left _ _ (or_false_left _ _ (or_false_left _ _ good)))))

  no_box : lacks_z (kind_of q.kind) ≡ true → q.z ≡ 65535
  unfolding bad
  no_box e = eqb-true _ _ (not-false _ (rw e at none))
    where
      none : (lacks_z (kind_of q.kind) && not (eqb q.z 65535)) ≡ false
      none =
          or_false_right (no_kind (kind_of q.kind) || not (eqb q.byte1 0) || any (leb 256) (boxes_of q)) _
          (or_false_left _ _ good)

  module _ (x y z : ℕ) (is_x : q.x < 256 → x ≡ q.x) (is_y : q.y < 256 → y ≡ q.y) (is_z : q.z < 256 → z ≡ q.z) where
    z_again : (lacks : Bool) → lacks_z (kind_of q.kind) ≡ lacks → cond lacks 65535 z ≡ q.z
    z_again true e = sym (no_box e)
    z_again false e = is_z (good_z 256 q good e)

    -- numbers that are the boxes, where those are below 256
    pub rule_again : rule_of q.kind x y z ≡ q
    unfolding rule_of
    rule_again =
        λ i. record {
          kind = q.kind;
          byte1 = sym byte_zero i;
          x = is_x (good_x 256 q good) i;
          y = is_y (good_y 256 q good) i;
          z = z_again (lacks_z (kind_of q.kind)) refl i;
        }
