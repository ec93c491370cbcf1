-- The search's start: the sheet filled to rest, as the first trial finds it.
-- Assumes nothing.
use mathlib.Core.Path.{◌≡◌, subst, subst⁻¹, ◌∙◌}
use mathlib.Core.Logic.{inl}
use mathlib.Core.List.{List, []}
use Prim.Native.Nat.{ℕ}
use native.Mathlib.Omega.{arith}
use lib.ListN.{get_or, set}
use lib.Seq.{set-get_or}
use Rattle.std.specs.Prelude.{Option, Some, None, is_some, IfSome}
use Rattle.spec.specs.Records.{Rec, rules_in}
use Rattle.spec.proofs.Accepted.{Accepted}
use Rattle.spec.proofs.Named.{Good}
use Rattle.theory.proofs.Numbered.{rules_good}
use Rattle.kits.proofs.Forced.{clash_answer}
use Rattle.theory.specs.Steps.{Grown}
use Rattle.engine.specs.Moves.{SomeClash, AllStable}
use Rattle.sheet.specs.declared.Sheet.{Sheet}
use Rattle.search.proofs.Filled.{grown_past, grown_answer}
use Rattle.search.proofs.Trials.{finds_as}
use Rattle.search.specs.Look.{Given, given_of, Asks, Finds, SameBelow}
use Rattle.search.specs.Ready.{Ready, OnTrial}

module _ {maker depot : List ℕ} {n : ℕ} {s : List ℕ} {given : Given} (tables : Accepted n maker depot) (ready : Ready n s given)
    {qs : List Rec} (same : qs ≡ rules_in maker depot) where
  -- an answer under the packed rules is one under the tables'
  start_rules : (r : Option Sheet) → Finds (Asks qs n s given) n r → Finds (Asks (rules_in maker depot) n s given) n r
  start_rules r a = subst (λ (rs : List Rec). Finds (Asks rs n s given) n r) same a

  -- a clash: no kit
  pub start_clash : SomeClash qs s → Finds (Asks (rules_in maker depot) n s given) n None
  start_clash c = start_rules None (clash_answer qs n s ready.past c.0 c.1 (is_some given) (given_of given) [])

  module _ {t : List ℕ} (rest : Grown qs s t × AllStable qs t) where
    -- box 0 gets the state that it has
    same_states : set t 0 (get_or t 0 0) ≡ t
    same_states = set-get_or t 0 0

    -- every rule is at rest, and no box is settled since
    pub start_trial : OnTrial qs n (set t 0 (get_or t 0 0)) 0 given
    start_trial =
        let good : Good n qs = subst⁻¹ (Good n) same (rules_good maker depot tables) in
        rw same_states
        (record {
          boxes = tables.boxes;
          good = good;
          cells = record { size = rest.0.size ∙ ready.cells.size; sheet = rest.0.sheet };
          past = grown_past n ready.past ready.cells rest.0 good;
          size = ready.size;
          poised = λ q m. inl (rest.1 q m);
          within = omega arith;
          below = omega arith;
          front = λ c h. absurd (omega arith);
          same = none_yet given;
        })
      where
        none_yet : (g : Given) → IfSome g (λ list. SameBelow 0 t list.now)
        none_yet None = tt
        none_yet (Some list) = λ c h. absurd (omega arith)

    pub start_answer : (r : Option Sheet) → Finds (Asks qs n (set t 0 (get_or t 0 0)) given) n r →
        Finds (Asks (rules_in maker depot) n s given) n r
    start_answer r a =
        start_rules r
        (finds_as (grown_answer n ready.past ready.cells rest.0 (is_some given) (given_of given)) n r (rw same_states at a))
