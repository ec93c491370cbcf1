-- What is said of a call once its checks have passed, or where they refuse it; and that our list fits at the head of the buffer.
-- Assumes nothing.
use mathlib.Core.Path.{◌≡◌, refl, sym, ap, ◌∙◌}
use mathlib.Core.List.{List, [], ◌∷◌, ◌++◌}
use Prim.Native.Nat.{ℕ, ◌+◌, ◌*◌}
use native.Mathlib.Omega.{arith}
use lib.ListN.{length, drop}
use lib.Seq.{sets-eq}
use Rattle.std.specs.Prelude.{Result, Ok, Err}
use Rattle.lemmas.proofs.Tests.{true_T}
use Rattle.spec.specs.Records.{rules_in}
use Rattle.spec.specs.Refusals.{Said, Check, written, passed, judge, sheet_checks, out_check}
use Rattle.spec.specs.Fill.{closure_of, clash_check, clashes}
use borrow.Author.Tests.{eqb-true, not-false}
use Rattle.spec.proofs.Judge.{judge_passed, judge_refused, judge_passes, judge_left, judge_right, does_refused, does_passed}
use Rattle.spec.proofs.Accepted.{AcceptedSheet, sheet_accepted}
use Rattle.accept.specs.Form.{form_says}
use Rattle.theory.specs.Steps.{Loaded, Grown}
use Rattle.theory.proofs.Filling.{clash_finds, no_clash}
use Rattle.theory.proofs.Loading.{loaded_clash, loaded_none}
use Rattle.engine.specs.Moves.{SomeClash, AllStable}
use Rattle.refusals.specs.declared.Refusal.{Refusal}
use Rattle.refusals.specs.declared.Refusal.TheVariants.{Clash}
use Rattle.whylists.proofs.Bytes.{lines_few, bytes_length}
use Rattle.whylists.specs.Ours.{ours, lines_bytes}
use Rattle.whylists.specs.Says.{why_checks, why_judges, why_says, why_writes, why_check_judges, why_check_says, at_head}
use Rattle.why.specs.Made.{Made}
use Rattle.why.specs.Answer.{explained_says, vetted_says, WhyDoes, WhyDoesInForm}

-- the buffer with our list at its head
abbrev with_ours : (maker depot sheet out : List ℕ) → List ℕ
with_ours maker depot sheet out = at_head (lines_bytes (ours maker depot sheet)) out

-- the engine has run from the sheet's states
module _ {n : ℕ} (maker depot sheet out : List ℕ) {states : List ℕ} (known : AcceptedSheet n maker depot sheet)
    (loaded : Loaded sheet states) where
  -- what is said decides what is written
  does : (answer : Result ℕ Refusal) {left : List ℕ} → why_judges maker depot sheet ≡ explained_says answer →
      left ≡ written (explained_says answer) (with_ours maker depot sheet out) out →
      WhyDoesInForm maker depot sheet out answer left
  does answer e left =
      record { says = sym e; writes = left ∙ ap (λ (s : Said ℕ). written s (with_ours maker depot sheet out) out) (sym e) }

  pub clashed : SomeClash (rules_in maker depot) states → WhyDoesInForm maker depot sheet out (Err Clash) out
  unfolding why_judges clash_check
  clashed clash =
      let own : AcceptedSheet (length sheet) maker depot sheet = rw known.sheet_length known in
      let found = clash_finds maker depot sheet own (loaded_clash loaded _ clash.0 clash.1) in
      does (Err Clash) (rw (true_T (clashes (closure_of maker depot sheet)) found)) refl

  pub explained : length out ≡ 8 * n →
      {rest : List ℕ} → Grown (rules_in maker depot) states rest × AllStable (rules_in maker depot) rest →
      {out' : List ℕ} {k : ℕ} → Made maker depot sheet out out' k → WhyDoesInForm maker depot sheet out (Ok k) out'
  unfolding why_judges clash_check ours
  explained size (grown, stable) {out'} {k} made =
      let few = lines_few maker depot (length sheet) sheet in
      let bytes = bytes_length (ours maker depot sheet) in
      does (Ok k) (rw (no_clash maker depot sheet (loaded_none loaded grown stable), made.lines))
      (made.stored
      ∙ sets-eq (lines_bytes (ours maker depot sheet)) out 0 (omega (arith, few, bytes, size, known.sheet_length))
      ∙ ap (λ (m : ℕ). lines_bytes (ours maker depot sheet) ++ drop m out) whole)
    where
      whole : 0 + length (lines_bytes (ours maker depot sheet)) ≡ length (lines_bytes (ours maker depot sheet))
      whole = omega arith

module _ (maker depot sheet : List ℕ) where
  pub sheet_passed : passed ≡ judge (sheet_checks maker depot sheet) passed → AcceptedSheet (length sheet) maker depot sheet
  sheet_passed e = sheet_accepted maker depot sheet (sym e)

  module _ (lines : List ℕ) where
    pub vet_refused : (why : Refusal) → form_says (Err why) ≡ judge (sheet_checks maker depot sheet) passed →
        vetted_says (Err why) ≡ why_check_says maker depot sheet lines
    unfolding why_check_says
    vet_refused why e = sym (judge_refused (sheet_checks maker depot sheet) (why_check_judges maker depot sheet lines) (sym e))

    pub vet_passed : passed ≡ judge (sheet_checks maker depot sheet) passed →
        why_check_judges maker depot sheet lines ≡ why_check_says maker depot sheet lines
    unfolding why_check_says
    vet_passed e = sym (judge_passed (sheet_checks maker depot sheet) (why_check_judges maker depot sheet lines) (sym e))

  module _ (out : List ℕ) where
    pub why_refused : (why : Refusal) → form_says (Err why) ≡ judge (why_checks maker depot sheet out) passed →
        WhyDoes maker depot sheet out (Err why) out
    unfolding why_says why_writes
    why_refused why e =
        does_refused (why_checks maker depot sheet out) (why_judges maker depot sheet) (with_ours maker depot sheet out) out (sym e)

    -- the maker's checks have passed
    module _ (e : passed ≡ judge (why_checks maker depot sheet out) passed) where
      abbrev last : List Check
      last = out_check (8 * length sheet) out ∷ []

      pub why_sheet : AcceptedSheet (length sheet) maker depot sheet
      why_sheet = sheet_accepted maker depot sheet (judge_left (sheet_checks maker depot sheet) last (sym e))

      pub why_out : length out ≡ 8 * length sheet
      unfolding out_check
      why_out = eqb-true _ _ (not-false _ (judge_passes last (judge_right (sheet_checks maker depot sheet) last (sym e))).0)

      pub why_passed : (answer : Result ℕ Refusal) (left : List ℕ) → WhyDoesInForm maker depot sheet out answer left →
          WhyDoes maker depot sheet out answer left
      unfolding why_says why_writes
      why_passed answer left =
          does_passed (why_checks maker depot sheet out) (why_judges maker depot sheet) (with_ours maker depot sheet out) out (sym e)
