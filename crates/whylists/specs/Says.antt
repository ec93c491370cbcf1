-- What the maker and the checker of why-lists say, and what the maker's buffer holds afterwards.
-- Assumes nothing.
use Rattle.std.specs.Prelude.{not, List, [], ◌∷◌, ◌++◌, ℕ, ◌*◌, ◌%◌, eqb, length, drop}
use Rattle.spec.specs.Refusals.{reason, Said, answered, passed, Check, judge, written, lowest_of, sheet_checks, out_check}
use Rattle.spec.specs.Fill.{closure_of, clash_check}
use Rattle.whylists.specs.Lines.{line_count, right}
use Rattle.whylists.specs.Ours.{ours, lines_bytes}

-- the maker's checks of form: 1, 2, 3, 4, 5 at place 1, where the buffer is not eight bytes a box
abbrev pub why_checks : (maker depot sheet out : List ℕ) → List Check
why_checks maker depot sheet out = sheet_checks maker depot sheet ++ out_check (8 * length sheet) out ∷ []

-- of a call in form: 7, or the number of lines
unfoldable pub why_judges : (maker depot sheet : List ℕ) → Said ℕ
why_judges maker depot sheet = judge (clash_check (closure_of maker depot sheet) ∷ []) (answered (length (ours maker depot sheet)))

unfoldable pub why_says : (maker depot sheet out : List ℕ) → Said ℕ
why_says maker depot sheet out = judge (why_checks maker depot sheet out) (why_judges maker depot sheet)

-- bytes at the head of a buffer; those after them stay
abbrev pub at_head : (bytes out : List ℕ) → List ℕ
at_head bytes out = bytes ++ drop (length bytes) out

unfoldable pub why_writes : (maker depot sheet out : List ℕ) → List ℕ
why_writes maker depot sheet out = written (why_says maker depot sheet out) (at_head (lines_bytes (ours maker depot sheet)) out) out

-- 10: the list's length is not a multiple of 8
unfoldable pub length_check : List ℕ → Check
length_check l = record { when = not (eqb (length l % 8) 0); why = reason 10 0 }

-- 11: a line is wrong
unfoldable pub lines_check : (maker depot sheet l : List ℕ) → Check
lines_check maker depot sheet l = lowest_of (reason 11) (λ k. not (right maker depot sheet l k)) (line_count l)

-- what the checker says of a call in form: 10, 11, or that it accepts
unfoldable pub why_check_judges : (maker depot sheet l : List ℕ) → Said (Unit {0})
why_check_judges maker depot sheet l = judge (length_check l ∷ lines_check maker depot sheet l ∷ []) passed

-- 1, 2, 3, 4 come before
unfoldable pub why_check_says : (maker depot sheet l : List ℕ) → Said (Unit {0})
why_check_says maker depot sheet l = judge (sheet_checks maker depot sheet) (why_check_judges maker depot sheet l)
