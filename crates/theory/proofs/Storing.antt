-- The list with a record's new states stored: the boxes that the record names hold them, and no other box changes.
-- Assumes nothing.
use mathlib.Core.Path.{◌≡◌, refl, ◌∙◌}
use mathlib.Core.Logic.{◌⊎◌, inl, inr}
use mathlib.Core.Bool.{Bool, true, false, cond}
use mathlib.Core.List.{List, [], ◌∷◌}
use Prim.Native.Nat.{ℕ, ◌≤◌, ◌<◌}
use native.Mathlib.Omega.{arith}
use native.Mathlib.Decide.{ℕ_discrete}
use lib.Dec.{T}
use lib.ListN.{length, get_or, set, length-set}
use lib.Seq.{get_or-set_same, get_or-set_other, lt-length-set, set-get_or}
use Rattle.spec.specs.Kinds.{Place, X, Y, Z, kind_of}
use Rattle.spec.specs.Records.{Rec, box_at, bad}
use Rattle.spec.specs.OneRule.{alone}
use Rattle.spec.proofs.Named.{good_named}
use Rattle.theory.specs.Steps.{z_missing, state_z, with_states}
use Rattle.theory.proofs.Places.{Names, named, named_names, names_named, good_kind, good_apart}

X≢Y : X ≡ Y → ⊥
X≢Y e = let z : ◌≡◌ {A = ℕ} 0 1 = cc in omega arith

X≢Z : X ≡ Z → ⊥
X≢Z e = let z : ◌≡◌ {A = ℕ} 0 1 = cc in omega arith

Y≢Z : Y ≡ Z → ⊥
Y≢Z e = let z : ◌≡◌ {A = ℕ} 0 1 = cc in omega arith

module _ (q : Rec) (x' y' z' : ℕ) (s : List ℕ) where
  -- x and y stored
  abbrev pair : List ℕ
  pair = set (set s q.x x') q.y y'

  -- and z, unless it is missing
  abbrev after : Bool → List ℕ
  after missing = cond missing pair (set pair q.z z')

  pair_size : length pair ≡ length s
  pair_size = simp length-set

  pub store_size : length (with_states q x' y' z' s) ≡ length s
  unfolding with_states
  store_size = at (z_missing q)
    where
      at : (missing : Bool) → length (after missing) ≡ length s
      at true = pair_size
      at false = length-set pair q.z z' ∙ pair_size

  -- nothing new is stored
  pub store_still : x' ≡ get_or s q.x 2 → y' ≡ get_or s q.y 2 → z' ≡ state_z q s → with_states q x' y' z' s ≡ s
  unfolding with_states state_z
  store_still ex ey ez = at (z_missing q) refl
    where
      same : pair ≡ s
      same = rw (ex, set-get_or s q.x 2, ey) (set-get_or s q.y 2)

      -- a z that is there is read
      z_read : z_missing q ≡ false → z' ≡ get_or s q.z 2
      z_read there = rw there at ez

      at : (missing : Bool) → z_missing q ≡ missing → after missing ≡ s
      at true e = same
      at false there = rw (same, z_read there) (set-get_or s q.z 2)

  module _ (n : ℕ) (good : bad n q ≡ false) where
    names : (p : Place) → T (named (kind_of q.kind) p) → Names q p
    names = named_names q (good_kind n q good)

    names_z : z_missing q ≡ false → Names q Z
    names_z e = names Z (rw e tt)

    apart : (p p' : Place) → Names q p → Names q p' → (p ≡ p' → ⊥) → box_at q p ≡ box_at q p' → ⊥
    apart p p' m m' differ e = differ (good_apart n q good p p' m m' e)

    -- a box is named, or as it was
    pub store_cases : (b : ℕ) → ((p : Place) × Names q p × (b ≡ box_at q p)) ⊎ (get_or (with_states q x' y' z' s) b 2 ≡ get_or s b 2)
    unfolding with_states box_at
    store_cases b = go (ℕ_discrete b q.x) (ℕ_discrete b q.y) (ℕ_discrete b q.z) (z_missing q) refl
      where
        pair_other : (b ≡ q.x → ⊥) → (b ≡ q.y → ⊥) → get_or pair b 2 ≡ get_or s b 2
        pair_other ¬x ¬y = get_or-set_other (set s q.x x') q.y b y' 2 ¬y ∙ get_or-set_other s q.x b x' 2 ¬x

        go : Dec (b ≡ q.x) → Dec (b ≡ q.y) → Dec (b ≡ q.z) → (missing : Bool) → z_missing q ≡ missing →
            ((p : Place) × Names q p × (b ≡ box_at q p)) ⊎ (get_or (after missing) b 2 ≡ get_or s b 2)
        go (yes e) dy dz t et = inl (X, names X tt, e)
        go (no ¬x) (yes e) dz t et = inl (Y, names Y tt, e)
        go (no ¬x) (no ¬y) dz true et = inr (pair_other ¬x ¬y)
        go (no ¬x) (no ¬y) (yes e) false et = inl (Z, names_z et, e)
        go (no ¬x) (no ¬y) (no ¬z) false et = inr (get_or-set_other pair q.z b z' 2 ¬z ∙ pair_other ¬x ¬y)

    module _ (room : n ≤ length s) where
      below : (p : Place) → Names q p → box_at q p < length s
      below p m = omega (arith, good_named n q good p m)

      pair_x : get_or pair q.x 2 ≡ x'
      unfolding box_at
      pair_x =
          get_or-set_other (set s q.x x') q.y q.x y' 2 (apart X Y (names X tt) (names Y tt) X≢Y)
          ∙ get_or-set_same s q.x x' 2 (below X (names X tt))

      pair_y : get_or pair q.y 2 ≡ y'
      unfolding box_at
      pair_y = get_or-set_same (set s q.x x') q.y y' 2 (lt-length-set s q.x x' (below Y (names Y tt)))

      -- a named box holds what was stored
      pub store_at : (p : Place) → Names q p →
          get_or (with_states q x' y' z' s) (box_at q p) 2 ≡ get_or (x' ∷ y' ∷ z' ∷ []) (box_at (alone q.kind) p) 2
      unfolding with_states box_at
      store_at p m = go (z_missing q) refl p m
        where
          go : (missing : Bool) → z_missing q ≡ missing → (p : Place) → Names q p →
              get_or (after missing) (box_at q p) 2 ≡ get_or (x' ∷ y' ∷ z' ∷ []) (box_at (alone q.kind) p) 2
          go true e X m = pair_x
          go true e Y m = pair_y
          go true e Z m = absurd (rw e at (names_named q (good_kind n q good) Z m))
          go false e X m = get_or-set_other pair q.z q.x z' 2 (apart X Z m (names_z e) X≢Z) ∙ pair_x
          go false e Y m = get_or-set_other pair q.z q.y z' 2 (apart Y Z m (names_z e) Y≢Z) ∙ pair_y
          go false e Z m = get_or-set_same pair q.z z' 2 (rw pair_size (below Z m))
