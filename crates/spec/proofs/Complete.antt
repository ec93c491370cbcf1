-- Source document 000, Theorem 2.2 (Completeness): the rules of each kind are exactly the minimal valid rules of its truth table.
-- Each is listed once, and they are twenty. One test, computed over the kinds, is the proof.
-- Assumes nothing.
use mathlib.Core.Path.{◌≡◌, refl}
use mathlib.Core.Logic.{◌↔◌}
use mathlib.Core.Bool.{Bool, not, ◌&&◌}
use mathlib.Core.List.{List, [], ◌∷◌, map, flatten, Memᴰ, Nodup}
use lib.Dec.{T}
use lib.ListN.{length}
use Rattle.lemmas.specs.Lists.{all}
use Rattle.lemmas.specs.Same.{within, distinct}
use Rattle.lemmas.proofs.Tests.{both_left, both_right}
use Rattle.lemmas.proofs.Same.{within_member, distinct_nodup}
use Rattle.lemmas.proofs.Those.{those_member, member_those}
use Rattle.spec.specs.Kinds.{Kind, AND, kinds, places_of, meaning}
use Rattle.spec.specs.Rules.{Rule, rules_of, ◌gives◌, only, both, x_in, x_out, y_in, y_out, z_in, z_out}
use Rattle.spec.specs.SameRule.{same_place, same_literal, same_rule}
use Rattle.spec.specs.Minimal.{Constraint, constraint_of, states, put, rows, tuples, subsequence, non_empty, places_in, side_for, rule_for, sayings}
use Rattle.spec.specs.Minimal.{says, rules_over, rules_for, agrees, valid, feasible, extends, implied_by, properly_implied_by, minimal, minimal_valid}
use Rattle.spec.specs.Minimal.{minimal_rules, Complete}
use Rattle.spec.proofs.EveryKind.{kind_all}
use Rattle.spec.proofs.SameRule.{same_rule_lem, same_rule_refl}
use Rattle.spec.proofs.RulesFor.{rule_listed}

-- every minimal valid rule is listed
pub minimal_listed : (C : Constraint) (r : Rule) → T (minimal_valid C r) ↔ Memᴰ r (minimal_rules C)
unfolding minimal_rules minimal_valid
minimal_listed C r =
    (λ t. those_member (minimal_valid C) ((rule_listed C r).0 (is_rule t)) t, λ m. (member_those (minimal_valid C) (rules_for C) m).1)
  where
    is_rule : T (rule_for C r && valid C r && minimal C r) → T (rule_for C r)
    is_rule t = both_left (rule_for C r) (valid C r) (both_left (rule_for C r && valid C r) (minimal C r) t)

-- a set of rules is complete where it and the list of minimal valid rules have the same members
complete_by : (C : Constraint) (R : List Rule) → T (within same_rule R (minimal_rules C)) → T (within same_rule (minimal_rules C) R)
    → Complete C R
complete_by C R s t r = (
  λ v. within_member same_rule same_rule_lem R t ((minimal_listed C r).0 v),
  λ m. (minimal_listed C r).1 (within_member same_rule same_rule_lem (minimal_rules C) s m),
)

-- the rules of the kind are among the minimal valid rules
abbrev only_minimal : Kind → Bool
only_minimal k = within same_rule (rules_of k) (minimal_rules (constraint_of k))

-- and the minimal valid rules among those of the kind
abbrev all_minimal : Kind → Bool
all_minimal k = within same_rule (minimal_rules (constraint_of k)) (rules_of k)

-- of which none is listed twice
abbrev listed_once : Kind → Bool
listed_once k = distinct same_rule (rules_of k)

abbrev as_minimal : Kind → Bool
as_minimal k = only_minimal k && all_minimal k && listed_once k

minimal_test : T (all as_minimal kinds)
unfolding places_of meaning rules_of same_place same_literal same_rule constraint_of states put rows tuples
    subsequence non_empty places_in side_for rule_for sayings says rules_over rules_for
    agrees valid feasible extends implied_by properly_implied_by minimal minimal_valid minimal_rules
minimal_test = tt

pub rules_complete : (k : Kind) → Complete (constraint_of k) (rules_of k)
rules_complete k =
    complete_by (constraint_of k) (rules_of k)
    (both_left (only_minimal k) (all_minimal k) t) (both_right (only_minimal k) (all_minimal k) t)
  where
    t : T (only_minimal k && all_minimal k)
    t = both_left (only_minimal k && all_minimal k) (listed_once k) (kind_all as_minimal minimal_test k)

pub rules_once : (k : Kind) → Nodup (rules_of k)
rules_once k =
    distinct_nodup same_rule same_rule_refl (rules_of k)
    (both_right (only_minimal k && all_minimal k) (listed_once k) (kind_all as_minimal minimal_test k))

-- of what is no kind, EQU, NOT, AND and OR; and in all
pub rules_twenty : (map (λ k. length (rules_of k)) kinds ≡ 0 ∷ 4 ∷ 4 ∷ 6 ∷ 6 ∷ []) × (length (flatten (map rules_of kinds)) ≡ 20)
unfolding rules_of flatten
rules_twenty = (refl, refl)

-- the document's example, of AND: z = 1 → y = 1 is implied by z = 1 → x = 1, y = 1; both are valid and feasible; the former is not
-- minimal, the latter is. For a rule that is not feasible the document prints z = 0, x = 1 → y = 0. That is AND 2, and feasible
-- by (1, 0, 0); the rule z = 1, x = 0 → y = 0 is not feasible.
pub and_example : T (implied_by (only z_in gives only y_in) (only z_in gives both x_in y_in)
    && all (valid (constraint_of AND)) ((only z_in gives only y_in) ∷ (only z_in gives both x_in y_in) ∷ [])
    && all (feasible (constraint_of AND)) ((only z_in gives only y_in) ∷ (only z_in gives both x_in y_in) ∷ [])
    && not (minimal (constraint_of AND) (only z_in gives only y_in))
    && minimal (constraint_of AND) (only z_in gives both x_in y_in)
    && feasible (constraint_of AND) (both x_in z_out gives only y_out)
    && not (feasible (constraint_of AND) (both x_out z_in gives only y_out)))
unfolding places_of meaning same_place same_literal same_rule constraint_of states put rows tuples
    subsequence non_empty places_in side_for rule_for sayings says rules_over rules_for
    agrees valid feasible extends implied_by properly_implied_by minimal
and_example = tt
