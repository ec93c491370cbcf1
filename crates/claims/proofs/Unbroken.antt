-- A filled sheet without a clash and with no open box breaks no rule: every rule is at rest on it. So Fill never says 8.
-- Assumes nothing.
use mathlib.Core.Path.{◌≡◌, subst}
use mathlib.Core.Bool.{false}
use mathlib.Core.List.{List, [], ◌∷◌, Memᴰ}
use Prim.Native.Nat.{ℕ, ◌≤◌, ◌<◌}
use native.Mathlib.Omega.{arith}
use native.Mathlib.Decide.{ℕ_discrete}
use lib.Dec.{eqb}
use lib.ListN.{length, get_or}
use lib.Seq.{take_all}
use Rattle.lemmas.specs.Lists.{upto}
use Rattle.lemmas.proofs.Members.{upto_member}
use Rattle.lemmas.proofs.Counts.{count_back}
use Rattle.lemmas.proofs.Indexed.{count_indexed}
use Rattle.spec.specs.Records.{Rec, record_count, rules_in}
use Rattle.spec.specs.Facts.{FactsOf, Closed, Clash}
use Rattle.spec.specs.Fits.{first_broken}
use Rattle.spec.specs.Fill.{closure_of, open_count}
use Rattle.spec.proofs.Named.{Good, within_good}
use Rattle.spec.proofs.Closed.{closed_closed}
use Rattle.spec.proofs.Accepted.{AcceptedSheet}
use Rattle.theory.specs.Steps.{Grown}
use Rattle.theory.proofs.States.{sheet_codes}
use Rattle.theory.proofs.Stability.{closed_one}
use Rattle.theory.proofs.Growth.{closed_grown}
use Rattle.theory.proofs.Numbered.{rules_good}
use Rattle.kits.specs.Kit.{SettledBelow}
use Rattle.kits.proofs.AtRest.{rest_kit}
use Rattle.claims.specs.Demands.{EveryRuleTrue}
use Rattle.claims.proofs.Testing.{true_unbroken}

-- where no box is counted as open, none is
none_open : (c : List ℕ) → open_count c ≡ 0 → (b : ℕ) → b < length c → get_or c b 2 ≡ 2 → ⊥
unfolding open_count
none_open c e b less is =
    count_back (λ i. false) (λ i. eqb 2 (get_or c i 2)) {l = upto (length c)} (λ i m t. absurd t)
    (omega (arith, count_indexed (eqb 2) 2 c)) (upto_member less) (rw is tt)

module _ (maker depot sheet : List ℕ) (known : AcceptedSheet (length sheet) maker depot sheet)
    (none : (b : ℕ) → Clash (rules_in maker depot) sheet b → ⊥) where
  abbrev codes : List ℕ
  codes = closure_of maker depot sheet

  good : Good (length sheet) (rules_in maker depot)
  good = rules_good maker depot known.tables

  pub codes_grown : Grown (rules_in maker depot) sheet codes
  unfolding closure_of
  codes_grown = closed_grown (rules_in maker depot) sheet known.sheet_bytes none

  -- every rule that can fire has fired
  at_rest : (q : Rec) → Memᴰ q (rules_in maker depot) → Closed (q ∷ []) (FactsOf codes)
  unfolding closure_of
  at_rest q m =
      closed_one q (FactsOf codes)
      (closed_closed (rules_in maker depot) sheet (sheet_codes sheet known.sheet_bytes)
      (within_good (length sheet) (rules_in maker depot) good) q m)

  settled : open_count codes ≡ 0 → SettledBelow (length sheet) codes
  settled e b less = go (ℕ_discrete (get_or codes b 2) 2)
    where
      go : Dec (get_or codes b 2 ≡ 2) → get_or codes b 2 ≤ 1
      go (yes is) = absurd (none_open codes e b (omega (arith, codes_grown.size)) is)
      go (no not-open) = omega (arith, codes_grown.sheet b)

  full_true : open_count codes ≡ 0 → EveryRuleTrue maker depot codes
  full_true e =
      subst (EveryRuleTrue maker depot) (take_all (length sheet) codes (omega (arith, codes_grown.size)))
      (rest_kit (rules_in maker depot) (length sheet) codes (settled e) codes_grown.sheet good at_rest).fits

  pub full_unbroken : open_count codes ≡ 0 → first_broken maker depot codes < record_count maker depot → ⊥
  full_unbroken e less = omega (arith, true_unbroken maker depot codes (full_true e))
