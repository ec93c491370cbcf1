-- What Fill says and writes once the sheet is filled.
-- Assumes nothing.
use mathlib.Core.Path.{◌≡◌, refl, sym, ap, subst, ◌∙◌}
use mathlib.Core.List.{List}
use Prim.Native.Nat.{ℕ, ◌<◌}
use native.Mathlib.Omega.{arith}
use lib.ListN.{length, take}
use Rattle.std.specs.Prelude.{Result, Ok, Err, Some}
use Rattle.lemmas.specs.Lowest.{if_below}
use Rattle.lemmas.proofs.Lowest.{some_below}
use Rattle.spec.specs.Refusals.{reason, Said, refused, answered, passed, judge, written, order_checks}
use Rattle.spec.specs.Records.{record_count, rules_in}
use Rattle.spec.specs.Fits.{first_broken}
use Rattle.spec.specs.Fill.{closure_of, open_count, boxes_filled, fill_judges, fill_says, fill_writes}
use Rattle.spec.proofs.Accepted.{AcceptedSheet, AcceptedOrder, order_accepted}
use Rattle.spec.proofs.Judge.{does_refused, does_passed}
use Rattle.accept.specs.Form.{form_says}
use Rattle.spec.proofs.Closed.{closed_length}
use Rattle.theory.specs.Steps.{Loaded, Grown}
use Rattle.theory.proofs.Filling.{fill_clash, fill_broken, fill_filled}
use Rattle.theory.proofs.Loading.{loaded_clash, loaded_none, loaded_closed}
use Rattle.theory.proofs.Numbered.{rules_good}
use Rattle.engine.specs.Moves.{SomeClash, AllStable}
use Rattle.refusals.specs.declared.Refusal.{Refusal}
use Rattle.refusals.specs.declared.Refusal.TheVariants.{Clash, Broken}
use Rattle.fill.specs.Answer.{filled_says, FillDoes, FillDoesInForm, FillsTo}

-- what is said decides what is written
pub does : (maker depot sheet out : List ℕ) (answer : Result ℕ Refusal) {left : List ℕ} → fill_judges maker depot sheet ≡ filled_says answer →
    left ≡ written (filled_says answer) (closure_of maker depot sheet) out → FillDoesInForm maker depot sheet out answer left
does maker depot sheet out answer e left =
    record { says = sym e; writes = left ∙ ap (λ (s : Said ℕ). written s (closure_of maker depot sheet) out) (sym e) }

pub filled_size : (maker depot sheet filled : List ℕ) → FillsTo maker depot sheet filled → length filled ≡ length sheet
unfolding closure_of
filled_size maker depot sheet filled is = ap length is.closure ∙ closed_length (rules_in maker depot) sheet

module _ (maker depot sheet out filled : List ℕ) (is : FillsTo maker depot sheet filled) where
  pub handed_broken : {i : ℕ} → Some i ≡ if_below (first_broken maker depot filled) (record_count maker depot) → open_count filled ≡ 0 →
      FillDoesInForm maker depot sheet out (Err (Broken i)) out
  handed_broken {i} found full =
      let e = is.closure in
      let (is_first, below) = some_below (first_broken maker depot filled) (record_count maker depot) found in
      let place : i ≡ first_broken maker depot (closure_of maker depot sheet) = is_first ∙ ap (first_broken maker depot) e in
      does maker depot sheet out (Err (Broken i))
      (fill_broken maker depot sheet is.unclashed (ap open_count (sym e) ∙ full) (omega arith)
      ∙ ap (λ (r : ℕ). refused (reason 8 r)) (sym place))
      refl

  pub handed_boxes : (k : ℕ) (left : List ℕ) → (open_count filled ≡ 0 → first_broken maker depot filled < record_count maker depot → ⊥) →
      k ≡ boxes_filled sheet filled → left ≡ filled → FillDoesInForm maker depot sheet out (Ok k) left
  handed_boxes k left whole counted stored =
      let e = is.closure in
      does maker depot sheet out (Ok k)
      (fill_filled maker depot sheet is.unclashed (λ full below. whole (ap open_count e ∙ full) (rw (ap (first_broken maker depot) e) below))
      ∙ ap answered (sym (counted ∙ ap (boxes_filled sheet) e)))
      (stored ∙ e)

-- the engine's states are those of the sheet, loaded
module _ {n : ℕ} (maker depot sheet : List ℕ) {states : List ℕ} (known : AcceptedSheet n maker depot sheet) (loaded : Loaded sheet states) where
  its_own : AcceptedSheet (length sheet) maker depot sheet
  its_own = rw known.sheet_length known

  pub clashed : (out : List ℕ) → SomeClash (rules_in maker depot) states → FillDoesInForm maker depot sheet out (Err Clash) out
  clashed out clash =
      does maker depot sheet out (Err Clash) (fill_clash maker depot sheet its_own (loaded_clash loaded _ clash.0 clash.1)) refl

  pub rested : {rest : List ℕ} → Grown (rules_in maker depot) states rest × AllStable (rules_in maker depot) rest →
      FillsTo maker depot sheet (take n rest)
  unfolding closure_of
  rested {rest} (grown, stable) =
      let own = its_own in
      subst (λ (k : ℕ). FillsTo maker depot sheet (take k rest)) known.sheet_length (record {
        closure = loaded_closed loaded grown stable own.tables.boxes (rules_good maker depot own.tables) own.sheet_bytes;
        unclashed = loaded_none loaded grown stable;
      })

-- the checks come first
module _ (maker depot sheet out : List ℕ) where
  pub fill_refused : (why : Refusal) → form_says (Err why) ≡ judge (order_checks maker depot sheet out) passed →
      FillDoes maker depot sheet out (Err why) out
  unfolding fill_says fill_writes
  fill_refused why e =
      does_refused (order_checks maker depot sheet out) (fill_judges maker depot sheet) (closure_of maker depot sheet) out (sym e)

  pub fill_passed : (answer : Result ℕ Refusal) (left : List ℕ) → passed ≡ judge (order_checks maker depot sheet out) passed →
      FillDoesInForm maker depot sheet out answer left → FillDoes maker depot sheet out answer left
  unfolding fill_says fill_writes
  fill_passed answer left e =
      does_passed (order_checks maker depot sheet out) (fill_judges maker depot sheet) (closure_of maker depot sheet) out (sym e)

  pub fill_order : passed ≡ judge (order_checks maker depot sheet out) passed → AcceptedOrder maker depot sheet out
  fill_order e = order_accepted maker depot sheet out (sym e)
