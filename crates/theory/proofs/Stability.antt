-- Whether a record is stable is a matter of the states of the boxes that it names, and of its kind.
-- Assumes nothing.
use mathlib.Core.Path.{◌≡◌, refl, subst⁻¹}
use mathlib.Core.List.Memᴰ
use mathlib.Core.List.{List, [], ◌∷◌, Memᴰ}
use Prim.Native.Nat.{ℕ}
use lib.ListN.{get_or}
use Rattle.spec.specs.Kinds.{Place, kind_of}
use Rattle.spec.specs.Rules.{Literal, Rule, rules_of}
use Rattle.spec.specs.Records.{Rec, box_at}
use Rattle.spec.specs.Facts.{Facts, FactsOf, HasAll, Closed, holds}
use Rattle.spec.proofs.Named.{spoken, spoken_named}
use Rattle.theory.specs.Steps.{Stable}
use Rattle.theory.proofs.States.{holds_same}
use Rattle.theory.proofs.Places.{Names}

-- every record at rest: the whole is
pub all_stable : (qs : List Rec) (t : List ℕ) → ((q : Rec) → Memᴰ q qs → Stable q t) → Closed qs (FactsOf t)
all_stable qs t stable q m = stable q m q (Memᴰ.head refl)

-- the rules of one record
abbrev AtRest : Facts → Rec → Type 0
AtRest F q =
    (r : Rule) → Memᴰ r (rules_of (kind_of q.kind)) → HasAll F q r.premises → HasAll F q r.conclusions

pub closed_one : (q : Rec) (F : Facts) → AtRest F q → Closed (q ∷ []) F
closed_one q F rest q₀ m = subst⁻¹ (AtRest F) (Memᴰ.eq_of_singleton m) rest

-- two records of one kind, whose named boxes are in the same states
pub stable_moved : (q q' : Rec) (s t : List ℕ) → q.kind ≡ q'.kind →
    ((p : Place) → Names q p → get_or s (box_at q p) 2 ≡ get_or t (box_at q' p) 2) → Stable q s → Stable q' t
stable_moved q q' s t kind same stable =
    closed_one q' (FactsOf t)
    (λ r n premises l c.
    rw (← facts r n l (Memᴰ.append_right r.premises c))
    (stable q (Memᴰ.head refl) r (rw kind n)
    (λ p k. rw (facts r n p (Memᴰ.append_left r.conclusions k)) (premises p k)) l c))
  where
    facts : (r : Rule) → Memᴰ r (rules_of (kind_of q'.kind)) → (l : Literal) → Memᴰ l (spoken r) →
        holds s (box_at q l.place) l.state ≡ holds t (box_at q' l.place) l.state
    facts r n l c = holds_same s t _ _ (same l.place (spoken_named q.kind r (rw kind n) l c)) l.state
