-- A rule that is at rest, or waits for a box in the queue, stays so whatever is settled and queued.
-- Assumes nothing.
use mathlib.Core.Path.{◌≡◌, refl, sym}
use mathlib.Core.Logic.{◌⊎◌, inl, inr, ⊎_elim}
use mathlib.Core.List.{List, [], ◌∷◌, Memᴰ}
use Prim.Native.Nat.{ℕ, ◌≤◌}
use native.Mathlib.Omega.{arith}
use native.Mathlib.Decide.{ℕ_discrete}
use lib.ListN.{get_or}
use Rattle.spec.specs.Kinds.{Place, kind_of, places_of}
use Rattle.spec.specs.Records.{Rec, box_at}
use Rattle.theory.specs.Steps.{Stable}
use Rattle.theory.proofs.Places.{Names}
use Rattle.theory.proofs.Stability.{stable_moved}
use Rattle.engine.specs.Queue.{Queued, Waits, rests, named}
use Rattle.engine.proofs.Queueing.{has_within, has_later}

-- an element without the property is among them, or all have it
some_or_all : {A : Type 0} (P : A → Type 0) → ((a : A) → Dec (P a)) → (l : List A) →
    ((a : A) × Memᴰ a l × (P a → ⊥)) ⊎ ((a : A) → Memᴰ a l → P a)
some_or_all P dec [] = inr (λ a m. elim m [ ])
some_or_all {A} P dec (a ∷ l) = at (dec a) (some_or_all P dec l)
  where
    at : Dec (P a) → ((c : A) × Memᴰ c l × (P c → ⊥)) ⊎ ((c : A) → Memᴰ c l → P c) →
        ((c : A) × Memᴰ c (a ∷ l) × (P c → ⊥)) ⊎ ((c : A) → Memᴰ c (a ∷ l) → P c)
    at (no ¬p) rest = inl (a, Memᴰ.head refl, ¬p)
    at (yes p) (inl (c, m, ¬p)) = inl (c, Memᴰ.tail m, ¬p)
    at (yes p) (inr every) = inr each
      where
        each : (c : A) → Memᴰ c (a ∷ l) → P c
        each c (Memᴰ.head e) = rw e p
        each c (Memᴰ.tail m) = every c m

-- a box that the rule names has changed, or the rule is at rest still
pub stable_or_changed : (q : Rec) (s t : List ℕ) → Stable q s →
    ((p : Place) × Names q p × (get_or t (box_at q p) 2 ≡ get_or s (box_at q p) 2 → ⊥)) ⊎ Stable q t
stable_or_changed q s t stable =
    ⊎_elim inl (λ same. inr (stable_moved q q s t refl (λ p m. sym (same p m)) stable))
    (some_or_all (λ p. get_or t (box_at q p) 2 ≡ get_or s (box_at q p) 2)
    (λ p. ℕ_discrete (get_or t (box_at q p) 2) (get_or s (box_at q p) 2))
    (places_of (kind_of q.kind)))

-- a longer part of the queue
pub waits_from : (q : Rec) {s queue : List ℕ} {from to : ℕ} (from' to' : ℕ) → from' ≤ from → to ≤ to' → Waits q s queue from to →
    Waits q s queue from' to'
waits_from q from' to' down up (rests stable) = rests stable
waits_from q from' to' down up (named b names has) = named b names (has_within down up has)

module _ {s t queue queue' : List ℕ} {tail tail' : ℕ} (grew : Queued s t queue queue' tail tail') where
  -- what was at rest waits for a box of the new part at most
  pub stable_waits : (q : Rec) → Stable q s → Waits q t queue' tail tail'
  stable_waits q stable =
      ⊎_elim
      (λ found. named (box_at q found.0) (found.0, found.1, refl) (grew.changed (box_at q found.0) found.2))
      rests
      (stable_or_changed q s t stable)

  pub waits_queued : (q : Rec) {from : ℕ} → from ≤ tail → Waits q s queue from tail → Waits q t queue' from tail'
  waits_queued q {from} below (rests stable) = waits_from q from tail' below (omega arith) (stable_waits q stable)
  waits_queued q below (named b names has) = named b names (has_later grew has)
