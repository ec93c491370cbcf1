-- Source document 000, Definition 2.1, in its words and order: the rules for a constraint; valid, feasible, extends, implied by,
-- minimal, complete. The variables are the places of a record, and a tuple d gives each its state. Literals are X = s: the
-- variables X, and the tuple s of their states. So X = s → Y = t is a `Rule`.
-- "For every" and "for some" go over the tuples and the rules in finite lists, so that they compute. That these lists leave
-- nothing out is `tuple_listed` and `rule_listed` of the crate's proofs.
-- Assumes nothing.
use Rattle.std.specs.Prelude.{◌↔◌, Bool, true, false, not, ◌&&◌, ◌||◌, T}
use Rattle.std.specs.Bool.{beq}
use mathlib.Core.List.{List, [], ◌∷◌, map, Memᴰ}
use Rattle.lemmas.specs.Lists.{all, any, those}
use Rattle.lemmas.specs.Pairs.{pairs}
use Rattle.lemmas.specs.Same.{within, apart}
use Rattle.spec.specs.Kinds.{Kind, Place, places_of, meaning}
use Rattle.spec.specs.Rules.{Literal, Rule, ◌gives◌}
use Rattle.spec.specs.SameRule.{same_place, same_literal, same_rule}

-- a constraint C on a sequence of variables: which of their tuples are in it
pub record Constraint : Type 0 where
  pub variables : List Place
  pub allows : (Place → Bool) → Bool

-- the constraint of a kind: its truth table, on the places that it names
unfoldable pub constraint_of : Kind → Constraint
constraint_of k = record { variables = places_of k; allows = meaning k }

unfoldable pub states : List Bool
states = false ∷ true ∷ []

-- the tuple d, but with this state at p
unfoldable pub put : Place → Bool → (Place → Bool) → Place → Bool
put p state d q = elim (same_place p q) [ true ↦ state | false ↦ d q ]

-- every tuple of the variables; what is no variable is out
unfoldable pub rows : List Place → List (Place → Bool)
rows [] = (λ q. false) ∷ []
rows (p ∷ ps) = pairs (put p) states (rows ps)

-- the tuples d ∈ C
unfoldable pub tuples : Constraint → List (Place → Bool)
tuples C = those C.allows (rows C.variables)

-- one sequence is a subsequence of another
unfoldable pub subsequence : List Place → List Place → Bool
subsequence [] qs = true
subsequence (p ∷ ps) [] = false
subsequence (p ∷ ps) (q ∷ qs) = elim (same_place p q) [ true ↦ subsequence ps qs | false ↦ subsequence (p ∷ ps) qs ]

unfoldable pub non_empty : List Literal → Bool
non_empty [] = false
non_empty (l ∷ ls) = true

-- X, of X = s
unfoldable pub places_in : List Literal → List Place
places_in s = map (λ l. l.place) s

-- X is a non-empty subsequence of the variables
unfoldable pub side_for : Constraint → List Literal → Bool
side_for C s = non_empty s && subsequence (places_in s) C.variables

-- X = s → Y = t is a rule for C: X and Y are two such, and disjoint
unfoldable pub rule_for : Constraint → Rule → Bool
rule_for C r =
    side_for C r.premises
    && side_for C r.conclusions
    && apart same_place (places_in r.premises) (places_in r.conclusions)

-- what a rule says of a variable
pub data Saying : Type 0 where
  nothing : Saying
  premise : (state : Bool) → Saying
  conclusion : (state : Bool) → Saying

unfoldable pub sayings : List Saying
sayings = nothing ∷ premise false ∷ premise true ∷ conclusion false ∷ conclusion true ∷ []

unfoldable pub says : Place → Saying → Rule → Rule
says p nothing r = r
says p (premise state) r = (record { place = p; state = state } ∷ r.premises) gives r.conclusions
says p (conclusion state) r = r.premises gives (record { place = p; state = state } ∷ r.conclusions)

-- every way to say something or nothing of each variable
unfoldable pub rules_over : List Place → List Rule
rules_over [] = ([] gives []) ∷ []
rules_over (p ∷ ps) = pairs (says p) sayings (rules_over ps)

-- the rules for C
unfoldable pub rules_for : Constraint → List Rule
rules_for C = those (rule_for C) (rules_over C.variables)

-- d[X] = s
unfoldable pub agrees : (Place → Bool) → List Literal → Bool
agrees d s = all (λ l. beq (d l.place) l.state) s

-- for every tuple d ∈ C the equality d[X] = s implies the equality d[Y] = t
unfoldable pub valid : Constraint → Rule → Bool
valid C r = all (λ d. not (agrees d r.premises) || agrees d r.conclusions) (tuples C)

-- for some tuple d ∈ C the equality d[X] = s holds
unfoldable pub feasible : Constraint → Rule → Bool
feasible C r = any (λ d. agrees d r.premises) (tuples C)

-- Z = u extends X = s
unfoldable pub extends : List Literal → List Literal → Bool
extends u s = within same_literal s u

-- Z = u → U = v is implied by X = s → Y = t: Z = u extends X = s, and Y = t extends U = v
unfoldable pub implied_by : Rule → Rule → Bool
implied_by g r = extends g.premises r.premises && extends r.conclusions g.conclusions

-- properly: by another rule than itself
unfoldable pub properly_implied_by : Rule → Rule → Bool
properly_implied_by g r = implied_by g r && not (same_rule g r)

-- it is feasible and is not properly implied by a valid rule
unfoldable pub minimal : Constraint → Rule → Bool
minimal C r = feasible C r && not (any (properly_implied_by r) (those (valid C) (rules_for C)))

unfoldable pub minimal_valid : Constraint → Rule → Bool
minimal_valid C r = rule_for C r && valid C r && minimal C r

unfoldable pub minimal_rules : Constraint → List Rule
minimal_rules C = those (minimal_valid C) (rules_for C)

-- the set of rules consists of all minimal valid rules for C
abbrev pub Complete : Constraint → List Rule → Type 0
Complete C R = (r : Rule) → T (minimal_valid C r) ↔ Memᴰ r R
