-- The truth table reads its places through the three boxes of a record.
-- Assumes nothing.
use mathlib.Core.Path.{◌≡◌, refl, ap, fun_ext}
use mathlib.Core.Bool.{Bool, not, ◌&&◌}
use mathlib.Core.List.{List}
use Prim.Native.Nat.{ℕ}
use Rattle.spec.specs.Kinds.{Place, X, Y, Z, kind_of, meaning}
use Rattle.spec.specs.Records.{Rec, box_at, is_rule}
use Rattle.spec.specs.Fits.{is_in, breaks, is_broken}
use Rattle.broken.specs.Places.{at_places}

pub broken_by_boxes : (l : List ℕ) (q : Rec) →
    is_broken l q ≡ (is_rule q && not (meaning (kind_of q.kind) (at_places (is_in l q.x) (is_in l q.y) (is_in l q.z))))
unfolding is_broken breaks box_at
broken_by_boxes l q =
    ap (λ (v : Place → Bool). is_rule q && not (meaning (kind_of q.kind) v)) (fun_ext (elim [ X ↦ refl | Y ↦ refl | Z ↦ refl ]))
