-- Soundness of the rules: of states that make a kind's truth table true, and the premises of one of its rules, the rule's
-- conclusions are true. One test, computed over the kinds, their rules and the eight rows of states, is the proof.
-- Assumes nothing.
use mathlib.Core.Path.{◌≡◌}
use mathlib.Core.Logic.{inl}
use mathlib.Core.Bool.{Bool}
use mathlib.Core.List.{Memᴰ}
use lib.Dec.{T}
use Rattle.lemmas.specs.Lists.{all}
use Rattle.lemmas.proofs.Members.{all_member}
use Rattle.spec.specs.Kinds.{Kind, kinds, Place, meaning}
use Rattle.spec.specs.Rules.{Literal, Rule, rules_of}
use Rattle.spec.specs.SameRule.{same_place}
use Rattle.spec.specs.Minimal.{Constraint, states, put, rows, tuples, agrees, valid}
use Rattle.spec.proofs.EveryKind.{kind_all, places, place_listed}
use Rattle.spec.proofs.Tuples.{tuple_listed, agrees_at, agrees_of, valid_holds}

-- the truth table at all three places, also those that the kind does not name
abbrev three_places : Kind → Constraint
three_places k = record { variables = places; allows = meaning k }

-- every rule of the kind is valid
abbrev all_valid : Kind → Bool
all_valid k = all (valid (three_places k)) (rules_of k)

valid_test : T (all all_valid kinds)
unfolding valid tuples rows states put same_place agrees meaning rules_of
valid_test = tt

pub rules_sound : (k : Kind) (r : Rule) → Memᴰ r (rules_of k) → (v : Place → Bool) → T (meaning k v)
    → ((l : Literal) → Memᴰ l r.premises → v l.place ≡ l.state)
    → (l : Literal) → Memᴰ l r.conclusions → v l.place ≡ l.state
rules_sound k r m v t h =
    agrees_at v r.conclusions
    (valid_holds (three_places k) r
    (all_member (valid (three_places k)) (kind_all all_valid valid_test k) m)
    v (tuple_listed places v (λ q. inl (place_listed q))) t
    (agrees_of v r.premises h))
