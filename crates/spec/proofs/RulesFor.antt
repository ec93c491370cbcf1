-- The rules for a constraint are all listed: `rules_for` has every rule whose two sides are disjoint non-empty subsequences of
-- the variables, and no other.
-- Assumes nothing.
use mathlib.Core.Path.{◌≡◌, refl, subst⁻¹}
use mathlib.Core.Logic.{◌↔◌, ◌⊎◌, inl, inr}
use mathlib.Core.Bool.{Bool, true, false, ◌&&◌}
use mathlib.Core.List.Memᴰ
use mathlib.Core.List.{List, [], ◌∷◌, Memᴰ}
use lib.Dec.{T}
use Rattle.lemmas.specs.Same.{apart}
use Rattle.lemmas.proofs.Tests.{T_true, both_left, both_right}
use Rattle.lemmas.proofs.Pairs.{pairs_of}
use Rattle.lemmas.proofs.Same.{apart_member}
use Rattle.lemmas.proofs.Those.{those_member, member_those}
use Rattle.spec.specs.Kinds.{Place}
use Rattle.spec.specs.Rules.{Literal, Rule, ◌gives◌}
use Rattle.spec.specs.SameRule.{same_place}
use Rattle.spec.specs.Minimal.{Constraint, subsequence, non_empty, places_in, side_for, rule_for, Saying, nothing, premise, conclusion, sayings}
use Rattle.spec.specs.Minimal.{says, rules_over, rules_for}
use Rattle.spec.proofs.SameRule.{same_place_lem, same_place_refl}

saying_listed : (a : Saying) → Memᴰ a sayings
unfolding sayings
saying_listed nothing = Memᴰ.head refl
saying_listed (premise false) = Memᴰ.tail (Memᴰ.head refl)
saying_listed (premise true) = Memᴰ.tail (Memᴰ.tail (Memᴰ.head refl))
saying_listed (conclusion false) = Memᴰ.tail (Memᴰ.tail (Memᴰ.tail (Memᴰ.head refl)))
saying_listed (conclusion true) = Memᴰ.tail (Memᴰ.tail (Memᴰ.tail (Memᴰ.tail (Memᴰ.head refl))))

-- p is the place of the first literal, and the places of the others are a subsequence of ps
record First (p : Place) (ps : List Place) (s : List Literal) : Type 0 where
  state : Bool
  others : List Literal
  whole : s ≡ record { place = p; state = state } ∷ others
  below : T (subsequence (places_in others) ps)

first_or_none : (p : Place) (ps : List Place) (s : List Literal) → T (subsequence (places_in s) (p ∷ ps))
    → First p ps s ⊎ T (subsequence (places_in s) ps)
unfolding subsequence places_in
first_or_none p ps [] t = inr tt
first_or_none p ps (l ∷ s) t = go (same_place l.place p) refl t
  where
    go : (b : Bool) → same_place l.place p ≡ b
        → T (elim b [ true ↦ subsequence (places_in s) ps | false ↦ subsequence (places_in (l ∷ s)) ps ])
        → First p ps (l ∷ s) ⊎ T (subsequence (places_in (l ∷ s)) ps)
    go true e u = inl (record { state = l.state; others = s; whole = λ i. record { place = here i; state = l.state } ∷ s; below = u })
      where
        here : l.place ≡ p
        here = same_place_lem l.place p (T_true e)
    go false e u = inr u

-- no place is on both sides
abbrev Disjoint : List Literal → List Literal → Type 0
Disjoint a b = (q : Place) → Memᴰ q (places_in a) → Memᴰ q (places_in b) → ⊥

first_place : {p : Place} {ps : List Place} {s : List Literal} → First p ps s → Memᴰ p (places_in s)
unfolding places_in
first_place {p} f = subst⁻¹ (λ (s : List Literal). Memᴰ p (places_in s)) f.whole (Memᴰ.head refl)

other_place : {p : Place} {ps : List Place} {s : List Literal} (f : First p ps s) {q : Place} → Memᴰ q (places_in f.others)
    → Memᴰ q (places_in s)
unfolding places_in
other_place f {q} m = subst⁻¹ (λ (s : List Literal). Memᴰ q (places_in s)) f.whole (Memᴰ.tail m)

-- one variable after the other: it is the first premise, or the first conclusion, or neither; both it can't be
rule_over : (ps : List Place) (a b : List Literal) → T (subsequence (places_in a) ps) → T (subsequence (places_in b) ps)
    → Disjoint a b → Memᴰ (a gives b) (rules_over ps)
unfolding rules_over says subsequence places_in
rule_over [] [] [] s t d = Memᴰ.head refl
rule_over [] [] (l ∷ b) s t d = absurd t
rule_over [] (l ∷ a) b s t d = absurd s
rule_over (p ∷ ps) a b s t d = go (first_or_none p ps a s) (first_or_none p ps b t) (rule_over ps)
  where
    say : (c : Saying) {r : Rule} → Memᴰ r (rules_over ps) → Memᴰ (says p c r) (rules_over (p ∷ ps))
    say c m = pairs_of (says p) (saying_listed c) m

    go : First p ps a ⊎ T (subsequence (places_in a) ps) → First p ps b ⊎ T (subsequence (places_in b) ps)
        → ((a b : List Literal) → T (subsequence (places_in a) ps) → T (subsequence (places_in b) ps) → Disjoint a b
        → Memᴰ (a gives b) (rules_over ps)) → Memᴰ (a gives b) (rules_over (p ∷ ps))
    go (inl f) (inl g) rest = absurd (d p (first_place f) (first_place g))
    go (inl f) (inr u) rest =
        Memᴰ.cast (λ i. f.whole i gives b)
        (say (premise f.state) (rest f.others b f.below u (λ q m n. d q (other_place f m) n)))
    go (inr u) (inl g) rest =
        Memᴰ.cast (λ i. a gives g.whole i)
        (say (conclusion g.state) (rest a g.others u g.below (λ q m n. d q m (other_place g n))))
    go (inr u) (inr v) rest = say nothing (rest a b u v d)

side_subsequence : (C : Constraint) (s : List Literal) → T (side_for C s) → T (subsequence (places_in s) C.variables)
unfolding side_for
side_subsequence C s = both_right (non_empty s) (subsequence (places_in s) C.variables)

pub rule_listed : (C : Constraint) (r : Rule) → T (rule_for C r) ↔ Memᴰ r (rules_for C)
unfolding rules_for rule_for
rule_listed C r = (λ t. those_member (rule_for C) (over t) t, λ m. (member_those (rule_for C) (rules_over C.variables) m).1)
  where
    a : Bool
    a = side_for C r.premises

    b : Bool
    b = side_for C r.conclusions

    c : Bool
    c = apart same_place (places_in r.premises) (places_in r.conclusions)

    over : T (a && b && c) → Memᴰ r (rules_over C.variables)
    over t =
        rule_over C.variables r.premises r.conclusions
        (side_subsequence C r.premises (both_left a b (both_left (a && b) c t)))
        (side_subsequence C r.conclusions (both_right a b (both_left (a && b) c t)))
        (λ q. apart_member same_place same_place_refl (places_in r.conclusions) (both_right (a && b) c t))
