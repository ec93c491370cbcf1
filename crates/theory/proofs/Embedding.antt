-- One rule inside the whole: what follows for a record's boxes by its own rules alone follows under all records.
-- Assumes nothing.
use mathlib.Core.Path.{◌≡◌, refl}
use mathlib.Core.Bool.{Bool, true, false}
use mathlib.Core.List.Memᴰ
use mathlib.Core.List.{List, [], ◌∷◌, Memᴰ}
use Prim.Native.Nat.{ℕ, zero, suc}
use native.Mathlib.Omega.{arith}
use lib.Dec.{T, T_not}
use lib.ListN.{get_or}
use Rattle.lemmas.proofs.Tests.{false_T}
use Rattle.spec.specs.Kinds.{Place, X, Y, Z}
use Rattle.spec.specs.Records.{Rec, box_at, bad}
use Rattle.spec.specs.Facts.{Facts, Closure, settled, fires, holds}
use Rattle.spec.specs.OneRule.{alone}
use Rattle.spec.proofs.Least.{Inside, closure_least}
use Rattle.spec.proofs.Named.{spoken_named}
use Rattle.spec.proofs.Codes.{holds_below}
use Rattle.theory.specs.Steps.{z_missing, state_z, states_at}
use Rattle.theory.proofs.States.{holds_same, none_open}
use Rattle.theory.proofs.Places.{Names, named_names, names_named, alone_apart, good_kind}
use Rattle.theory.proofs.Stability.{closed_one}

module _ (q : Rec) (s : List ℕ) (n : ℕ) (good : bad n q ≡ false) where
  z_there_lem : Names q Z → z_missing q ≡ false
  z_there_lem m = false_T (z_missing q) (T_not (z_missing q) (names_named q (good_kind n q good) Z m))

  -- the states that are read are those of the named boxes
  pub states_at_lem : (p : Place) → Names q p → get_or (states_at q s) (box_at (alone q.kind) p) 2 ≡ get_or s (box_at q p) 2
  unfolding box_at state_z
  states_at_lem X m = refl
  states_at_lem Y m = refl
  states_at_lem Z m = rw (z_there_lem m)

  -- and they say nothing of any other
  states_named : (i : ℕ) (state : Bool) → T (holds (states_at q s) i state) → (p : Place) × (i ≡ box_at (alone q.kind) p) × Names q p
  unfolding box_at state_z
  states_named zero state t = (X, refl, named_names q (good_kind n q good) X tt)
  states_named (suc zero) state t = (Y, refl, named_names q (good_kind n q good) Y tt)
  states_named (suc (suc zero)) state t = go (z_missing q) refl
    where
      go : (missing : Bool) → z_missing q ≡ missing → (p : Place) × (2 ≡ box_at (alone q.kind) p) × Names q p
      go true e = absurd (none_open (states_at q s) 2 (rw e) state t)
      go false e = (Z, refl, named_names q (good_kind n q good) Z (rw e tt))
  states_named (suc (suc (suc i))) state t = absurd (omega (arith, holds_below (states_at q s) (suc (suc (suc i))) state t))

-- the fact of box i of the record alone is one of a box that q names, and follows there
abbrev pub Carried : List Rec → List ℕ → Rec → Facts
Carried qs s q i state =
    (p : Place) × (i ≡ box_at (alone q.kind) p) × Names q p × Closure qs s (box_at q p) state

module _ (qs : List Rec) (s : List ℕ) (q : Rec) where
  carried_at : (p : Place) (state : Bool) → Carried qs s q (box_at (alone q.kind) p) state → Closure qs s (box_at q p) state
  carried_at p state (p', e, m, fact) = rw (alone_apart q.kind p p' e) fact

  module _ (member : Memᴰ q qs) (n : ℕ) (good : bad n q ≡ false) where
    pub one_carried : Inside (Closure (alone q.kind ∷ []) (states_at q s)) (Carried qs s q)
    one_carried =
        closure_least (alone q.kind ∷ []) (states_at q s) (Carried qs s q) start
        (closed_one (alone q.kind) (Carried qs s q)
        (λ r k premises l c. (
          l.place,
          refl,
          spoken_named q.kind r k l (Memᴰ.append_right r.premises c),
          fires q member r k (λ l' c'. carried_at l'.place l'.state (premises l' c')) l c,
        )))
      where
        start : (i : ℕ) (state : Bool) → T (holds (states_at q s) i state) → Carried qs s q i state
        start i state t =
            let found = states_named q s n good i state t in
            let here : T (holds s (box_at q found.0) state) =
            rw (holds_same (states_at q s) s _ _ (states_at_lem q s n good found.0 found.2) state) at (rw found.1 at t) in
            (found.0, found.1, found.2, settled here)

    -- at a place of the record
    pub one_closure : (p : Place) (state : Bool) →
        Closure (alone q.kind ∷ []) (states_at q s) (box_at (alone q.kind) p) state → Closure qs s (box_at q p) state
    one_closure p state h = carried_at p state (one_carried _ state h)
