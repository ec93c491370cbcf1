-- The answer to a line, by what was found of it so far; and the fields after its word.
-- Assumes nothing.
use mathlib.Core.Path.{◌≡◌, refl, sym, ◌∙◌, ap}
use mathlib.Core.Bool.{true, false, cond}
use mathlib.Core.List.{List, [], ◌∷◌, ◌++◌}
use Prim.Native.Nat.{ℕ, ◌+◌, ◌≤◌, ◌<◌}
use native.Mathlib.Omega.{arith}
use native.Mathlib.Nat.{zero-add}
use lib.Dec.{eqb}
use lib.ListN.{length, get_or, take, drop, length-drop}
use borrow.Author.Tests.{lt-ltb, le-ltb, eq-eqb, ne_eqb}
use Rattle.lemmas.specs.Lists.{all}
use Rattle.text.specs.Spelling.{ascii}
use Rattle.fields.specs.Cuts.{until}
use Rattle.fields.specs.Fields.{fields_of, is_field, part}
use Rattle.fields.specs.Ends.{RightFields}
use Rattle.fields.proofs.Splitting.{first_piece, ends_before, next_pieces}
use Rattle.calls.specs.Words.{error_for}
use Rattle.calls.specs.Rows.{call_rows, row_at, row_of}
use Rattle.calls.specs.Lines.{answer_in, answer_of, reply_to}
use Rattle.calls.specs.Room.{row_number}
use Rattle.calls.specs.declared.rows.Call.{Call}
use Rattle.calls.proofs.Table.{row_many, row_below, answer_row}

pub answer_long : (line : List ℕ) → 200000 < length line → answer_of line ≡ error_for (ascii "long")
unfolding answer_of
answer_long line h = rw (lt-ltb _ _ h)

-- a line short enough, whose word ends at `end`
pub record Worded (line : List ℕ) (end : ℕ) : Type 0 where
  pub short : length line ≤ 200000
  pub ends : end ≡ 0 + until 32 line

module _ {line : List ℕ} {end : ℕ} (w : Worded line end) where
  by_row : answer_of line ≡
      cond (eqb (row_of (take end line)) (length call_rows)) (error_for (ascii "word"))
      (answer_in (row_at (row_of (take end line))) (drop 1 (fields_of line)))
  unfolding answer_of
  by_row =
      rw (le-ltb _ _ w.short)
      (answer_row (get_or (fields_of line) 0 []) (drop 1 (fields_of line))
      ∙ ap
      (λ (l : List ℕ).
      cond (eqb (row_of l) (length call_rows)) (error_for (ascii "word")) (answer_in (row_at (row_of l)) (drop 1 (fields_of line))))
      (first_piece 32 line 0 (omega arith) ∙ ap (λ (n : ℕ). take n line) (sym (w.ends ∙ zero-add _))))

  pub answer_word : length call_rows ≡ row_of (take end line) → answer_of line ≡ error_for (ascii "word")
  answer_word none = by_row ∙ rw (eq-eqb _ _ (sym none))

  -- the word is that of a call
  module _ (call : Call) (found : row_number call ≡ row_of (take end line)) where
    in_row : answer_of line ≡ answer_in (row_at (row_number call)) (drop 1 (fields_of line))
    in_row = by_row ∙ rw (← found, ne_eqb (row_number call) (length call_rows) (λ e. omega (arith, row_below call)))

    pub answer_fields : (length (fields_of line) ≡ (row_at (row_number call)).many + 1 → ⊥) → answer_of line ≡ error_for (ascii "fields")
    answer_fields other =
        in_row ∙ rw (ne_eqb (length (drop 1 (fields_of line))) (row_at (row_number call)).many
        (λ same. other (omega (arith, same, length-drop 1 (fields_of line), row_many call))))

    -- the fields after the word: as many as the row wants
    module _ (same : length (fields_of line) ≡ (row_at (row_number call)).many + 1) where
      more : 1 < length (fields_of line)
      more = omega (arith, same, row_many call)

      pub after_within : end + 1 ≤ length line
      after_within = omega (arith, ends_before 32 line 0 (omega arith) more, w.ends)

      after_word : drop 1 (fields_of line) ≡ fields_of (drop (end + 1) line)
      after_word = ap (drop 1) (next_pieces 32 line 0 (omega arith) more (end + 1) (omega (arith, w.ends)))

      after_count : length (fields_of (drop (end + 1) line)) ≡ (row_at (row_number call)).many
      after_count = omega (arith, same, ap length (next_pieces 32 line 0 (omega arith) more (end + 1) (omega (arith, w.ends))))

      after_row : answer_of line ≡ answer_in (row_at (row_number call)) (fields_of (drop (end + 1) line))
      after_row = in_row ∙ ap (answer_in (row_at (row_number call))) after_word

      pub answer_digits : all is_field (fields_of (drop (end + 1) line)) ≡ false → answer_of line ≡ error_for (ascii "digits")
      answer_digits wrong = after_row ∙ rw (eq-eqb _ _ after_count, wrong)

      module _ (right : all is_field (fields_of (drop (end + 1) line)) ≡ true) where
        pub answer_call : answer_of line ≡ (row_at (row_number call)).answer (part (fields_of (drop (end + 1) line)))
        answer_call = after_row ∙ rw (eq-eqb _ _ after_count, right)

        pub after_right : RightFields line (end + 1)
        after_right =
            record { within = after_within; few = omega (arith, after_count, row_many call); right = right }

pub reply_empty : (line : List ℕ) → length line < 1 → reply_to line ≡ []
unfolding reply_to
reply_empty [] few = refl
reply_empty (c ∷ l) few = absurd (omega arith)

pub reply_comment : (line : List ℕ) → 1 ≤ length line → get_or line 0 0 ≡ 35 → reply_to line ≡ []
unfolding reply_to
reply_comment [] some e = refl
reply_comment (c ∷ l) some e = rw (eq-eqb _ _ e)

pub reply_answer : (line : List ℕ) → 1 ≤ length line → (get_or line 0 0 ≡ 35 → ⊥) → reply_to line ≡ answer_of line ++ 10 ∷ []
unfolding reply_to
reply_answer [] some other = absurd (omega arith)
reply_answer (c ∷ l) some other = rw (ne_eqb _ _ other)
