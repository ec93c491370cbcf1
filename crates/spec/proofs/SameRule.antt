-- The tests for two places, two literals or two rules say that they are equal.
-- Assumes nothing.
use mathlib.Core.Path.{◌≡◌, refl}
use mathlib.Core.Bool.{beq}
use lib.Dec.{T}
use Rattle.lemmas.specs.Same.{same_list}
use Rattle.lemmas.proofs.Tests.{both_left, both_right, both_of, beq_same, beq_refl}
use Rattle.lemmas.proofs.Same.{same_list_lem, same_list_refl}
use Rattle.spec.specs.Kinds.{Place, X, Y, Z}
use Rattle.spec.specs.Rules.{Literal, Rule}
use Rattle.spec.specs.SameRule.{same_place, same_literal, same_rule}

pub same_place_lem : (p q : Place) → T (same_place p q) → p ≡ q
unfolding same_place
same_place_lem X X t = refl
same_place_lem X Y t = absurd t
same_place_lem X Z t = absurd t
same_place_lem Y X t = absurd t
same_place_lem Y Y t = refl
same_place_lem Y Z t = absurd t
same_place_lem Z X t = absurd t
same_place_lem Z Y t = absurd t
same_place_lem Z Z t = refl

pub same_place_refl : (p : Place) → T (same_place p p)
unfolding same_place
same_place_refl X = tt
same_place_refl Y = tt
same_place_refl Z = tt

pub same_literal_lem : (l m : Literal) → T (same_literal l m) → l ≡ m
unfolding same_literal
same_literal_lem l m t = λ i. record { place = places i; state = states i }
  where
    places : l.place ≡ m.place
    places = same_place_lem l.place m.place (both_left (same_place l.place m.place) (beq l.state m.state) t)

    states : l.state ≡ m.state
    states = beq_same l.state m.state (both_right (same_place l.place m.place) (beq l.state m.state) t)

pub same_literal_refl : (l : Literal) → T (same_literal l l)
unfolding same_literal
same_literal_refl l =
    both_of (same_place l.place l.place) (beq l.state l.state)
    (same_place_refl l.place) (beq_refl l.state)

pub same_rule_lem : (r g : Rule) → T (same_rule r g) → r ≡ g
unfolding same_rule
same_rule_lem r g t = λ i. record { premises = left i; conclusions = right i }
  where
    left : r.premises ≡ g.premises
    left =
        same_list_lem same_literal same_literal_lem r.premises g.premises
        (both_left (same_list same_literal r.premises g.premises) (same_list same_literal r.conclusions g.conclusions) t)

    right : r.conclusions ≡ g.conclusions
    right =
        same_list_lem same_literal same_literal_lem r.conclusions g.conclusions
        (both_right (same_list same_literal r.premises g.premises) (same_list same_literal r.conclusions g.conclusions) t)

pub same_rule_refl : (r : Rule) → T (same_rule r r)
unfolding same_rule
same_rule_refl r =
    both_of (same_list same_literal r.premises r.premises) (same_list same_literal r.conclusions r.conclusions)
    (same_list_refl same_literal same_literal_refl r.premises) (same_list_refl same_literal same_literal_refl r.conclusions)
