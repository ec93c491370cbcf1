-- A box that no rule names and the sheet leaves open takes both states in the lists.
-- Assumes nothing.
use mathlib.Core.Path.{◌≡◌, ap, subst, ◌∙◌}
use mathlib.Core.Logic.{inl}
use mathlib.Core.Bool.{Bool, not, ◌||◌, beq}
use mathlib.Core.List.{List, Memᴰ}
use Prim.Native.Nat.{ℕ, ◌≤◌, ◌<◌}
use native.Mathlib.Decide.{ℕ_discrete}
use native.Mathlib.Omega.{arith}
use lib.Dec.{T, eqb}
use lib.ListN.{length, get_or, set, length-set}
use lib.Seq.{get_or-set_same, get_or-set_other}
use Rattle.lemmas.specs.Lists.{all}
use Rattle.lemmas.proofs.Tests.{beq_same, beq_refl}
use Rattle.lemmas.proofs.Implies.{implies_at}
use Rattle.lemmas.proofs.Members.{all_member, all_of, map_member}
use Rattle.spec.specs.Kinds.{Kind, kinds, Place, kind_of, places_of, meaning}
use Rattle.spec.specs.SameRule.{same_place}
use Rattle.spec.specs.Minimal.{states, put, rows}
use Rattle.spec.specs.Records.{Rec, box_at, boxes_of, rules_in}
use Rattle.spec.specs.Fits.{is_in, breaks}
use Rattle.spec.specs.Kits.{kits}
use Rattle.spec.proofs.EveryKind.{kind_all, places, place_listed}
use Rattle.spec.proofs.Tuples.{tuple_listed}
use Rattle.kits.specs.Kit.{Kit}
use Rattle.kits.proofs.Kits.{kits_in_order}

-- none of the records names box b
abbrev pub Unnamed : List Rec → ℕ → Type 0
Unnamed qs b = (q : Rec) → Memᴰ q qs → Memᴰ b (boxes_of q) → ⊥

-- a truth table looks only at the places that its kind names: one test, computed over the kinds and every two rows of states
abbrev same_named : Kind → (Place → Bool) → (Place → Bool) → Bool
same_named k v w = all (λ p. beq (v p) (w p)) (places_of k)

abbrev same_meaning : Kind → (Place → Bool) → (Place → Bool) → Bool
same_meaning k v w = not (same_named k v w) || beq (meaning k v) (meaning k w)

abbrev looks_named : Kind → Bool
looks_named k = all (λ v. all (same_meaning k v) (rows places)) (rows places)

named_test : T (all looks_named kinds)
unfolding rows states put same_place meaning places_of
named_test = tt

meaning_named : (k : Kind) (v w : Place → Bool) → ((p : Place) → Memᴰ p (places_of k) → v p ≡ w p) → meaning k v ≡ meaning k w
meaning_named k v w h =
    beq_same (meaning k v) (meaning k w)
    (implies_at (same_named k v w) (beq (meaning k v) (meaning k w))
    (all_member (same_meaning k v) (all_member (λ u. all (same_meaning k u) (rows places)) (kind_all looks_named named_test k) (listed v)) (listed w))
    (all_of (λ p. beq (v p) (w p)) (places_of k) (λ p m. rw (h p m) (beq_refl (w p)))))
  where
    listed : (u : Place → Bool) → Memᴰ u (rows places)
    listed u = tuple_listed places u (λ q. inl (place_listed q))

-- so another state of a box that the record does not name makes no difference to it
breaks_unnamed : (q : Rec) (l : List ℕ) (b a : ℕ) → (Memᴰ b (boxes_of q) → ⊥) → breaks (set l b a) q ≡ breaks l q
unfolding breaks boxes_of is_in
breaks_unnamed q l b a none =
    ap not
    (meaning_named (kind_of q.kind) (λ p. is_in (set l b a) (box_at q p)) (λ p. is_in l (box_at q p))
    (λ p m.
    ap (λ (c : ℕ). eqb c 1)
    (get_or-set_other l b (box_at q p) a 0
    (λ e. none (subst (λ (c : ℕ). Memᴰ c (boxes_of q)) e (map_member (box_at q) m))))))

module _ (qs : List Rec) (n : ℕ) (s l : List ℕ) (kit : Kit qs n s l) (b a : ℕ) (below : b < n) (state : a ≤ 1) where
  set_at : (c : ℕ) → Dec (c ≡ b) → (P : ℕ → Type 0) → (c ≡ b → P a) → ((c ≡ b → ⊥) → P (get_or l c 2)) → P (get_or (set l b a) c 2)
  set_at c (yes e) P here there = rw (e, get_or-set_same l b a 2 (omega (arith, kit.full.boxes))) (here e)
  set_at c (no e) P here there = rw (get_or-set_other l b c a 2 e) (there e)

  -- a kit with this box in the other state is a kit
  pub kit_spare : get_or s b 2 ≡ 2 → Unnamed qs b → Kit qs n s (set l b a)
  kit_spare unsettled none =
      record {
        full = record {
          boxes = length-set l b a ∙ kit.full.boxes;
          bits = λ c i. set_at c (ℕ_discrete c b) (λ v. v ≤ 1) (λ e. state) (λ e. kit.full.bits c i);
        };
        keeps = λ c i settled.
            set_at c (ℕ_discrete c b) (λ v. v ≡ get_or s c 2) (λ e. absurd (settled (rw e unsettled))) (λ e. kit.keeps c i settled);
        fits = λ q m. breaks_unnamed q l b a (none q m) ∙ kit.fits q m;
      }

-- of the lists: with each that has the box in one state there is the one that has it in the other
pub spare_both : (maker depot sheet l : List ℕ) → Memᴰ l (kits maker depot sheet) → (b : ℕ) → b < length sheet →
    get_or sheet b 2 ≡ 2 → Unnamed (rules_in maker depot) b → (a : ℕ) → a ≤ 1 → Memᴰ (set l b a) (kits maker depot sheet)
spare_both maker depot sheet l m b below unsettled none a state =
    let exactly = (kits_in_order maker depot sheet).exactly in
    (exactly (set l b a)).1
    (kit_spare (rules_in maker depot) (length sheet) sheet l ((exactly l).0 m) b a below state unsettled none)
