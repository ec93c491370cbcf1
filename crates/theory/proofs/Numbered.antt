-- The rules by number: each is a record of the tables that counts as a rule, and each such record is one of them.
-- Assumes nothing.
use mathlib.Core.Path.{◌≡◌, subst, subst⁻¹}
use mathlib.Core.Bool.{true, false}
use mathlib.Core.List.{List, map, Memᴰ}
use Prim.Native.Nat.{ℕ, ◌<◌}
use Rattle.lemmas.specs.Lists.{upto}
use Rattle.lemmas.proofs.Members.{map_member, member_map, upto_member, member_upto}
use Rattle.lemmas.proofs.Those.{those_member, member_those}
use Rattle.lemmas.proofs.Tests.{T_true, true_T}
use Rattle.spec.specs.Records.{Rec, record_at, record_count, is_rule, rules_in, bad}
use Rattle.spec.proofs.Named.{Good}
use Rattle.spec.proofs.Accepted.{Accepted}

-- what is known of a rule: its number
pub record NumberOf (maker depot : List ℕ) (q : Rec) : Type 0 where
  pub number : ℕ
  pub below : number < record_count maker depot
  pub is : q ≡ record_at maker depot number
  pub counts : is_rule q ≡ true

module _ (maker depot : List ℕ) where
  pub number_rule : {r : ℕ} → r < record_count maker depot → is_rule (record_at maker depot r) ≡ true →
      Memᴰ (record_at maker depot r) (rules_in maker depot)
  unfolding rules_in
  number_rule l counts = those_member is_rule (map_member (record_at maker depot) (upto_member l)) (T_true counts)

  pub rule_number : {q : Rec} → Memᴰ q (rules_in maker depot) → NumberOf maker depot q
  unfolding rules_in
  rule_number m =
      let kept = member_those is_rule (map (record_at maker depot) (upto (record_count maker depot))) m in
      let found = member_map (record_at maker depot) (upto (record_count maker depot)) kept.0 in
      record { number = found.0; below = member_upto (record_count maker depot) found.1; is = found.2; counts = true_T _ kept.1 }

  -- what holds of every record that counts, by its number, holds of every rule
  pub every_rule : (P : Rec → Type 0) →
      ((r : ℕ) → r < record_count maker depot → is_rule (record_at maker depot r) ≡ true → P (record_at maker depot r)) →
      (q : Rec) → Memᴰ q (rules_in maker depot) → P q
  every_rule P h q m =
      let found = rule_number m in
      subst⁻¹ P found.is (h found.number found.below (subst (λ (p : Rec). is_rule p ≡ true) found.is found.counts))

  pub rules_good : {n : ℕ} → Accepted n maker depot → Good n (rules_in maker depot)
  rules_good {n} accepted = every_rule (λ q. bad n q ≡ false) (λ r l counts. accepted.good r l)
