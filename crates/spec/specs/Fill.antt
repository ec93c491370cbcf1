-- Fill: the filled sheet and the number of boxes filled.
-- Assumes nothing.
use Rattle.std.specs.Prelude.{Bool, true, false, not, ◌&&◌, List, [], ◌∷◌, ℕ, ltb, eqb, length, get_or}
use Rattle.lemmas.specs.Lists.{any, count, upto}
use Rattle.spec.specs.Records.{record_count, rules_in}
use Rattle.spec.specs.Facts.{holds}
use Rattle.spec.specs.Rounds.{closed}
use Rattle.spec.specs.Refusals.{Said, reason, answered, Check, judge, written, order_checks}
use Rattle.spec.specs.Fits.{first_broken}

-- the closure of the sheet's facts, as codes
unfoldable pub closure_of : List ℕ → List ℕ → List ℕ → List ℕ
closure_of maker depot sheet = closed (rules_in maker depot) sheet

-- some box has both facts
unfoldable pub clashes : List ℕ → Bool
clashes c = any (λ b. holds c b false && holds c b true) (upto (length c))

-- the boxes that were 2 and are not now
unfoldable pub boxes_filled : List ℕ → List ℕ → ℕ
boxes_filled sheet c = count (λ b. eqb (get_or sheet b 0) 2 && not (eqb (get_or c b 0) 2)) (upto (length sheet))

unfoldable pub open_count : List ℕ → ℕ
open_count c = count (eqb 2) c

-- 7: a clash
unfoldable pub clash_check : List ℕ → Check
clash_check c = record { when = clashes c; why = reason 7 0 }

-- 8: the filled sheet has no open box and breaks a rule
unfoldable pub broken_check : List ℕ → List ℕ → List ℕ → Check
broken_check maker depot c =
    record {
      when = eqb (open_count c) 0 && ltb (first_broken maker depot c) (record_count maker depot);
      why = reason 8 (first_broken maker depot c);
    }

-- what Fill says of a call in form: 7, 8, or the number of boxes filled
unfoldable pub fill_judges : List ℕ → List ℕ → List ℕ → Said ℕ
fill_judges maker depot sheet =
    judge (clash_check (closure_of maker depot sheet) ∷ broken_check maker depot (closure_of maker depot sheet) ∷ [])
    (answered (boxes_filled sheet (closure_of maker depot sheet)))

unfoldable pub fill_says : List ℕ → List ℕ → List ℕ → List ℕ → Said ℕ
fill_says maker depot sheet out = judge (order_checks maker depot sheet out) (fill_judges maker depot sheet)

-- what the out buffer holds afterwards
unfoldable pub fill_writes : List ℕ → List ℕ → List ℕ → List ℕ → List ℕ
fill_writes maker depot sheet out = written (fill_says maker depot sheet out) (closure_of maker depot sheet) out
