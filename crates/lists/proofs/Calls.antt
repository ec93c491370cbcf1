-- What First and Next do once their checks have passed.
-- Assumes nothing.
use mathlib.Core.Path.{◌≡◌, sym}
use mathlib.Core.Bool.{true, false}
use mathlib.Core.List.{List}
use Prim.Native.Nat.{ℕ}
use lib.ListN.{length}
use Rattle.std.specs.Prelude.{Some, None, Result, Ok, Err}
use denote.Ref.{Bor}
use Rattle.spec.specs.Records.{rules_in}
use Rattle.spec.specs.Refusals.{passed, judge, order_checks, next_checks, Does}
use Rattle.spec.proofs.Accepted.{AcceptedOrder, AcceptedNext, order_accepted, next_accepted}
use Rattle.kits.proofs.Sheets.{kit_answer}
use Rattle.kits.proofs.Says.{first_found, first_none, next_found, next_none}
use Rattle.refusals.specs.declared.Refusal.{Refusal}
use Rattle.lists.specs.Answer.{FirstDoes, NextDoes, Chosen}

-- a promise by what is due
is_does : {A : Type 0} {due answer : A} {bytes left : List ℕ} → (due ≡ answer) × (bytes ≡ left) → Does due bytes answer left
is_does is = record { says = sym is.0; writes = sym is.1 }

module _ (maker depot sheet out : List ℕ) (form : passed ≡ judge (order_checks maker depot sheet out) passed) where
  pub first_order : AcceptedOrder maker depot sheet out
  first_order = order_accepted maker depot sheet out (sym form)

  pub first_does : (answer : Result (Unit {0}) Refusal) (left : List ℕ) → Chosen (length sheet) maker depot sheet None out answer left →
      FirstDoes maker depot sheet out answer left
  first_does (Ok _) left chosen =
      is_does (first_found maker depot sheet out (sym form) left (kit_answer (rules_in maker depot) (length sheet) sheet _ true left chosen))
  first_does (Err _) left chosen =
      rw (chosen.0, chosen.1)
      (is_does (first_none maker depot sheet out (sym form) out (kit_answer (rules_in maker depot) (length sheet) sheet _ false out chosen.2)))

module _ (maker depot sheet : List ℕ) (given : Bor (List ℕ)) (out : List ℕ) (form : passed ≡ judge (next_checks maker depot sheet given.now out) passed) where
  pub next_order : AcceptedNext maker depot sheet given.now out
  next_order = next_accepted maker depot sheet given.now out (sym form)

  pub next_does : (answer : Result (Unit {0}) Refusal) (left : List ℕ) → Chosen (length sheet) maker depot sheet (Some given) out answer left →
      NextDoes maker depot sheet given.now out answer left
  next_does (Ok _) left chosen = is_does (next_found maker depot sheet given.now out (sym form) left chosen)
  next_does (Err _) left chosen =
      rw (chosen.0, chosen.1) (is_does (next_none maker depot sheet given.now out (sym form) out chosen.2))
