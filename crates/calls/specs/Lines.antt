-- What is written for a line: nothing, or its answer and a line feed. This is all that has to be believed of the line protocol.
-- Assumes nothing.
use Rattle.std.specs.Prelude.{cond, List, [], ◌∷◌, ◌++◌, ℕ, ltb, eqb, length, get_or, drop}
use Rattle.lemmas.specs.Lists.{all}
use Rattle.text.specs.Spelling.{ascii}
use Rattle.fields.specs.Cuts.{longest}
use Rattle.fields.specs.Fields.{fields_of, is_field, is, part}
use Rattle.calls.specs.Words.{error_for}
use Rattle.calls.specs.Rows.{Row, call_rows}

-- the answer to a call of this row: the wrong number of fields, wrong digits, in this order; else that of the operation
abbrev pub answer_in : Row → (fields : List (List ℕ)) → List ℕ
answer_in r fs =
    cond (eqb (length fs) r.many)
    (cond (all is_field fs) (r.answer (part fs)) (error_for (ascii "digits")))
    (error_for (ascii "fields"))

-- the answer by the first row that has the word
abbrev pub answer_by : List Row → (word : List ℕ) (fields : List (List ℕ)) → List ℕ
answer_by [] w fs = error_for (ascii "word")
answer_by (r ∷ rs) w fs = cond (is w r.word) (answer_in r fs) (answer_by rs w fs)

-- the answer to a line of some characters: too long, or by its word and the fields after it
unfoldable pub answer_of : List ℕ → List ℕ
answer_of line =
    cond (ltb longest (length line)) (error_for (ascii "long")) (answer_by call_rows (get_or (fields_of line) 0 []) (drop 1 (fields_of line)))

-- an empty line and a line that begins with # (35) are passed over; any other answer is ended by a line feed (10)
unfoldable pub reply_to : List ℕ → List ℕ
reply_to [] = []
reply_to (c ∷ l) = cond (eqb c 35) [] (answer_of (c ∷ l) ++ 10 ∷ [])
