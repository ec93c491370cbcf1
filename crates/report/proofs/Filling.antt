-- The listing by what Fill says, whatever buffer of the sheet's length was lent to it.
-- Assumes nothing.
use mathlib.Core.Path.{◌≡◌, sym, ap, ◌∙◌}
use mathlib.Core.List.{List, [], ◌∷◌, ◌++◌}
use Prim.Native.Nat.{ℕ, ◌≤◌, ◌<◌}
use native.Mathlib.Omega.{arith}
use native.Mathlib.Decide.{dec_lt}
use borrow.Author.Tests.{lt-ltb}
use lib.ListN.{length}
use Rattle.spec.specs.Records.{record_count}
use Rattle.spec.specs.Refusals.{Said, passed, judge, written, boxes_check, out_check, sheet_checks, order_checks}
use Rattle.spec.specs.Fill.{open_count, closure_of, fill_says, fill_writes}
use Rattle.spec.specs.Kits.{kits}
use Rattle.spec.proofs.Judge.{judge_reached, judge_left}
use Rattle.spec.proofs.Accepted.{sheet_accepted}
use Rattle.std.specs.Prelude.{Result, Ok, Err}
use Rattle.refusals.specs.declared.Refusal.{Refusal}
use Rattle.refusals.specs.declared.Numbers.{Numbers}
use Rattle.refusals.specs.Telling.{refusal_of, refused_numbers, in_order, numbers_from, refusal_in}
use Rattle.refusals.proofs.Back.{numbers_back}
use Rattle.fill.specs.Answer.{filled_says, FillDoes}
use Rattle.report.specs.Listing.{refused_line, header_line, kit_lines, listing_by, listing_of}
use Rattle.report.specs.Asking.{RoomForSheet}

-- tables and sheet that pass: there are no more than 256 boxes
pub passed_boxes : (maker depot sheet : List ℕ) → judge (sheet_checks maker depot sheet) passed ≡ passed → length sheet ≤ 256
passed_boxes maker depot sheet e = (sheet_accepted maker depot sheet e).tables.boxes

module _ (maker depot sheet out : List ℕ) (boxed : RoomForSheet sheet out) where
  -- of the out buffer only its length matters, and that only for a sheet of at most 256 boxes
  says_same : fill_says maker depot sheet out ≡ fill_says maker depot sheet sheet
  unfolding fill_says boxes_check out_check
  says_same = at (dec_lt 256 (length sheet))
    where
      at : Dec (256 < length sheet) → fill_says maker depot sheet out ≡ fill_says maker depot sheet sheet
      at (yes above) = rw (lt-ltb 256 (length sheet) above)
      at (no within) = rw (boxed.size (omega arith))

  said : (answer : Result ℕ Refusal) (left : List ℕ) → FillDoes maker depot sheet out answer left →
      fill_says maker depot sheet sheet ≡ filled_says answer
  said answer left does = sym (does.says ∙ says_same)

  -- the refusal, had back from its numbers
  pub listing_refused : (why : Refusal) (left : List ℕ) → FillDoes maker depot sheet out (Err why) left → (n : Numbers) →
      in_order n ≡ refused_numbers (refusal_of why) → listing_of maker depot sheet ≡ refused_line (refusal_in n)
  unfolding listing_of listing_by
  listing_refused why left does n told =
      ap (listing_by maker depot sheet) (said (Err why) left does)
      ∙ ap refused_line (sym (ap (λ (l : List ℕ). refusal_in (numbers_from l)) told ∙ numbers_back (refusal_of why)))

  module _ (count : ℕ) (left : List ℕ) (does : FillDoes maker depot sheet out (Ok count) left) where
    -- what is written is the filled sheet
    wrote : left ≡ fill_writes maker depot sheet sheet
    unfolding fill_writes
    wrote =
        does.writes
        ∙ ap (λ (a : Said ℕ). written a (closure_of maker depot sheet) out) (sym does.says)
        ∙ sym (ap (λ (a : Said ℕ). written a (closure_of maker depot sheet) sheet) (said (Ok count) left does))

    pub listing_filled : listing_of maker depot sheet ≡
        header_line (length sheet) (record_count maker depot) count (open_count left) ++ kit_lines (kits maker depot sheet)
    unfolding listing_of listing_by
    listing_filled = ap (listing_by maker depot sheet) (said (Ok count) left does) ∙ rw wrote

    pub filled_passed : judge (sheet_checks maker depot sheet) passed ≡ passed
    unfolding fill_says
    filled_passed =
        judge_left (sheet_checks maker depot sheet) (out_check (length sheet) sheet ∷ [])
        (judge_reached (order_checks maker depot sheet sheet) _ {b = count} (said (Ok count) left does)).0

    pub filled_boxes : length sheet ≤ 256
    filled_boxes = passed_boxes maker depot sheet filled_passed
