-- The places that a kind names: x and y, and z unless it is missing. In a record that is not bad their boxes differ.
-- Assumes nothing.
use mathlib.Core.Path.{◌≡◌, refl, sym, ap, ◌∙◌, subst}
use mathlib.Core.Logic.{⊎_elim}
use mathlib.Core.Bool.{Bool, true, false, not, ◌||◌, ◌&&◌, beq}
use mathlib.Core.List.Memᴰ
use mathlib.Core.List.{List, map, Memᴰ}
use Prim.Native.Nat.{ℕ, ◌<◌}
use native.Mathlib.Omega.{arith}
use lib.Dec.{T, leb, eqb, eqb_refl}
use lib.ListN.{get_or}
use Rattle.lemmas.specs.Lists.{all, any}
use Rattle.lemmas.proofs.Tests.{or_cases, or_false_left, or_false_right, beq_same}
use Rattle.lemmas.proofs.Members.{all_member, any_member, any_of, map_member}
use Rattle.spec.specs.Kinds.{Kind, Place, X, Y, Z, kind_of, places_of}
use Rattle.spec.specs.Records.{Rec, box_at, boxes_of, no_kind, lacks_z, two_equal, bad}
use Rattle.spec.specs.OneRule.{alone}
use Rattle.spec.proofs.EveryKind.{kind_all, places, place_listed}
use Rattle.spec.specs.SameRule.{same_place}
use Rattle.spec.proofs.SameRule.{same_place_lem, same_place_refl}
use Rattle.spec.proofs.Named.{good_named}
use Rattle.theory.specs.Steps.{z_missing}

abbrev pub Names : Rec → Place → Type 0
Names q p = Memᴰ p (places_of (kind_of q.kind))

-- the place is named: z unless it is missing
abbrev pub named : Kind → Place → Bool
named k X = true
named k Y = true
named k Z = not (lacks_z k)

-- a computed test of a kind: it names exactly these places
abbrev place_right : Kind → Place → Bool
place_right k p = beq (any (same_place p) (places_of k)) (named k p)

places_right : Kind → Bool
places_right k = no_kind k || all (place_right k) places

kinds_places : (number : ℕ) → T (places_right (kind_of number))
unfolding places_right no_kind lacks_z places_of same_place
kinds_places number = kind_all places_right tt (kind_of number)

module _ (q : Rec) (real : no_kind (kind_of q.kind) ≡ false) (p : Place) where
  same_test : any (same_place p) (places_of (kind_of q.kind)) ≡ named (kind_of q.kind) p
  unfolding places_right
  same_test =
      ⊎_elim
      (λ t. absurd (rw real at t))
      (λ t. beq_same _ _ (all_member (place_right (kind_of q.kind)) t (place_listed p)))
      (or_cases (no_kind (kind_of q.kind)) _ (kinds_places q.kind))

  pub named_names : T (named (kind_of q.kind) p) → Names q p
  named_names t =
      let found = any_member (same_place p) (places_of (kind_of q.kind)) (rw same_test t) in
      Memᴰ.cast (same_place_lem p found.0 found.2) found.1

  pub names_named : Names q p → T (named (kind_of q.kind) p)
  names_named m = rw same_test at (any_of (same_place p) m (same_place_refl p))

-- the boxes 0, 1, 2 of a record that stands alone
place_at : ℕ → Place
place_at b = get_or places b X

alone_place : (kind : ℕ) (p : Place) → place_at (box_at (alone kind) p) ≡ p
unfolding box_at place_at
alone_place kind X = refl
alone_place kind Y = refl
alone_place kind Z = refl

pub alone_apart : (kind : ℕ) (p p' : Place) → box_at (alone kind) p ≡ box_at (alone kind) p' → p ≡ p'
alone_apart kind p p' e = sym (alone_place kind p) ∙ ap place_at e ∙ alone_place kind p'

pub alone_below : (kind : ℕ) (p : Place) → box_at (alone kind) p < 3
unfolding box_at
alone_below kind X = omega arith
alone_below kind Y = omega arith
alone_below kind Z = omega arith

-- the first number is none of the others
first_apart : {A : Type 0} (f : A → ℕ) (k : ℕ) {a : A} {l : List A} → any (eqb k) (map f l) ≡ false → Memᴰ a l → k ≡ f a → ⊥
first_apart f k {a} none m e = subst T none (any_of (eqb k) (map_member f m) (rw e (eqb_refl (f a))))

-- where no two of the numbers are equal, equal numbers come from one element
apart_map : {A : Type 0} (f : A → ℕ) {a b : A} {l : List A} → two_equal (map f l) ≡ false →
    Memᴰ a l → Memᴰ b l → f a ≡ f b → a ≡ b
unfolding two_equal
apart_map f none (Memᴰ.head here) (Memᴰ.head here') e = here ∙ sym here'
apart_map f none (Memᴰ.head {x = x} {xs = xs} here) (Memᴰ.tail m) e =
    absurd (first_apart f (f x) (or_false_left (any (eqb (f x)) (map f xs)) _ none) m (ap f (sym here) ∙ e))
apart_map f none (Memᴰ.tail m) (Memᴰ.head {x = x} {xs = xs} here) e =
    absurd (first_apart f (f x) (or_false_left (any (eqb (f x)) (map f xs)) _ none) m (ap f (sym here) ∙ sym e))
apart_map f none (Memᴰ.tail {x = x} {xs = xs} m) (Memᴰ.tail m') e =
    apart_map f (or_false_right (any (eqb (f x)) (map f xs)) _ none) m m' e

module _ (n : ℕ) (q : Rec) (good : bad n q ≡ false) where
  pub good_kind : no_kind (kind_of q.kind) ≡ false
  unfolding bad
  good_kind = or_false_left _ _ (or_false_left _ _ (or_false_left _ _ (or_false_left _ _ good)))

  -- no two of the boxes that it names are equal
  pub good_apart : (p p' : Place) → Names q p → Names q p' → box_at q p ≡ box_at q p' → p ≡ p'
  unfolding bad boxes_of
  good_apart p p' m m' e = apart_map (box_at q) (or_false_right others _ good) m m' e
    where
      -- the other reasons why a record is bad
      others : Bool
      others =
          no_kind (kind_of q.kind)
          || not (eqb q.byte1 0)
          || any (leb n) (boxes_of q)
          || (lacks_z (kind_of q.kind) && not (eqb q.z 65535))

  -- so a step reads and stores within n boxes
  pub good_x : q.x < n
  unfolding box_at
  good_x = good_named n q good X (named_names q good_kind X tt)

  pub good_y : q.y < n
  unfolding box_at
  good_y = good_named n q good Y (named_names q good_kind Y tt)

  pub good_z : z_missing q ≡ false → q.z < n
  unfolding box_at
  good_z there = good_named n q good Z (named_names q good_kind Z (rw there tt))
