-- The rules of a kind speak only of the places that the kind names. So where a record is not bad, all boxes that its rules speak
-- of are below n.
-- Assumes nothing.
use mathlib.Core.Path.{◌≡◌, subst}
use mathlib.Core.Bool.{Bool, false, not, ◌||◌}
use mathlib.Core.List.Memᴰ
use mathlib.Core.List.{List, ◌++◌, Memᴰ}
use Prim.Native.Nat.{ℕ, ◌<◌}
use lib.Dec.{T, leb, eqb}
use borrow.Author.Tests.{leb-false}
use Rattle.lemmas.specs.Lists.{all, any}
use Rattle.lemmas.proofs.Tests.{false_T, or_false_left, or_false_right}
use Rattle.lemmas.proofs.Members.{all_member, any_member, any_of, map_member}
use Rattle.spec.specs.Kinds.{Kind, Place, kind_of, places_of}
use Rattle.spec.specs.Rules.{Literal, Rule, rules_of}
use Rattle.spec.specs.SameRule.{same_place}
use Rattle.spec.specs.Records.{Rec, box_at, boxes_of, no_kind, bad}
use Rattle.spec.specs.Facts.{FactsOf, Closure}
use Rattle.spec.proofs.Least.{Inside, closure_least}
use Rattle.spec.proofs.SameRule.{same_place_lem}
use Rattle.spec.proofs.EveryKind.{kind_all}

-- the boxes that this part of every rule of these records speaks of are below n
abbrev pub PartWithin : (Rule → List Literal) → ℕ → List Rec → Type 0
PartWithin part n qs =
    (q : Rec) → Memᴰ q qs → (r : Rule) → Memᴰ r (rules_of (kind_of q.kind)) →
    (l : Literal) → Memᴰ l (part r) → box_at q l.place < n

-- the boxes that the rules conclude on, and those that they ask of
abbrev pub Within : ℕ → List Rec → Type 0
Within n qs = PartWithin (λ r. r.conclusions) n qs

abbrev pub PremisesWithin : ℕ → List Rec → Type 0
PremisesWithin n qs = PartWithin (λ r. r.premises) n qs

-- all that a rule speaks of
abbrev pub spoken : Rule → List Literal
spoken r = r.premises ++ r.conclusions

-- a computed test of a kind: its rules speak only of the places that it names
speaks_named : Kind → Bool
speaks_named k = all (λ r. all (λ l. any (same_place l.place) (places_of k)) (spoken r)) (rules_of k)

kinds_named : (number : ℕ) → T (speaks_named (kind_of number))
unfolding speaks_named rules_of places_of same_place
kinds_named number = kind_all speaks_named tt (kind_of number)

pub spoken_named : (number : ℕ) (r : Rule) → Memᴰ r (rules_of (kind_of number)) → (l : Literal) → Memᴰ l (spoken r) →
    Memᴰ l.place (places_of (kind_of number))
unfolding speaks_named
spoken_named number r n l c =
    let t = all_member _ (all_member _ (kinds_named number) n) c in
    let found = any_member _ (places_of (kind_of number)) t in
    Memᴰ.cast (same_place_lem l.place found.0 found.2) found.1

-- a record that is not bad names boxes below n
pub good_named : (n : ℕ) (q : Rec) → bad n q ≡ false → (p : Place) → Memᴰ p (places_of (kind_of q.kind)) → box_at q p < n
unfolding bad boxes_of
good_named n q e p m =
    leb-false n (box_at q p)
    (false_T (leb n (box_at q p)) (λ t. subst T none (any_of (leb n) (map_member (box_at q) m) t)))
  where
    none : any (leb n) (boxes_of q) ≡ false
    none = or_false_right (no_kind (kind_of q.kind) || not (eqb q.byte1 0)) _ (or_false_left _ _ (or_false_left _ _ e))

-- no record is bad
abbrev pub Good : ℕ → List Rec → Type 0
Good n qs = (q : Rec) → Memᴰ q qs → bad n q ≡ false

part_good : (part : Rule → List Literal) → ((r : Rule) (l : Literal) → Memᴰ l (part r) → Memᴰ l (spoken r)) →
    (n : ℕ) (qs : List Rec) → Good n qs → PartWithin part n qs
part_good part of n qs good q m r k l c =
    good_named n q (good q m) l.place (spoken_named q.kind r k l (of r l c))

pub within_good : (n : ℕ) (qs : List Rec) → Good n qs → Within n qs
within_good = part_good (λ r. r.conclusions) (λ r l c. Memᴰ.append_right r.premises c)

pub premises_good : (n : ℕ) (qs : List Rec) → Good n qs → PremisesWithin n qs
premises_good = part_good (λ r. r.premises) (λ r l c. Memᴰ.append_left r.conclusions c)

-- where the sheet's facts are of boxes below n, and the rules conclude on such boxes only, every fact that follows is of one
pub closure_below : (qs : List Rec) (n : ℕ) (s : List ℕ) → Within n qs → Inside (FactsOf s) (λ b state. b < n) →
    Inside (Closure qs s) (λ b state. b < n)
closure_below qs n s within below =
    closure_least qs s (λ b state. b < n) below (λ q m r k premises l c. within q m r k l c)
