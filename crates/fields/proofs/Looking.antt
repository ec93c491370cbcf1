-- A word looked for among others, as the library finds it.
-- Assumes nothing.
use mathlib.Core.Path.{◌≡◌, refl, ap}
use mathlib.Core.Bool.{Bool, cond, ◌&&◌}
use mathlib.Core.List.{List, [], ◌∷◌}
use Prim.Native.Nat.{ℕ}
use lib.Dec.{eqb, ltb}
use lib.ListN.{length}
use Rattle.std.proofs.Common.{Some, None}
use Rattle.std.specs.Cmp.Lexicographic.{pointwise}
use Rattle.std.specs.List.{position_or_len}
use Rattle.std.proofs.lemmas.List.Recursion.{is_position_or_len}
use Rattle.lemmas.specs.Same.{same_list}
use Rattle.fields.specs.Words.{place_among, found_among}
use Rattle.fields.proofs.Scanning.{one_more}

-- the library's comparison of two slices
pub same_pointwise : (a b : List ℕ) → same_list eqb a b ≡ pointwise eqb a b
same_pointwise [] [] = refl
same_pointwise [] (y ∷ b) = refl
same_pointwise (x ∷ a) [] = refl
same_pointwise (x ∷ a) (y ∷ b) = ap (λ (r : Bool). eqb x y && r) (same_pointwise a b)

pub found_position : (w : List ℕ) (ps : List (List ℕ)) →
    found_among w ps
    ≡ cond (ltb (position_or_len (pointwise eqb w) ps) (length ps)) (Some (position_or_len (pointwise eqb w) ps)) None
found_position w ps = rw (place ps)
  where
    place : (ps : List (List ℕ)) → place_among w ps ≡ position_or_len (pointwise eqb w) ps
    place = is_position_or_len (place_among w) (pointwise eqb w) refl
        (λ p ps. rw (same_pointwise w p) (ap (cond (pointwise eqb w p) 0) (one_more (place_among w ps))))
