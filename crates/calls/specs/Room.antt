-- Room for the answer to a call: its words take 80 characters at most, a lent buffer a space and as many characters as its field. And
-- the rows of the calls, as the code has them.
-- Assumes nothing.
use Rattle.std.specs.Prelude.{List, ℕ, ◌+◌, ◌*◌, Option, Some, None, length, get_or, drop}
use Rattle.text.specs.Putting.{PutWithin}
use Rattle.fields.specs.Fields.{fields_of, part}
use Rattle.fields.specs.Ends.{part_in}
use Rattle.calls.specs.Rows.{call_rows, row_at}
use Rattle.calls.specs.declared.rows.Call.{Call}
use Rattle.calls.specs.declared.rows.Call.TheVariants.{Fill, Test, Show, First, Next}

-- the row of a call; and where a word is none, how many rows there are
abbrev pub row_number : Call → ℕ
row_number Fill = 0
row_number Test = 1
row_number Show = 2
row_number First = 3
row_number Next = 4

abbrev pub row_found : Option Call → ℕ
row_found (Some call) = row_number call
row_found None = length call_rows

-- the answer to these parts is put
abbrev pub Answered : (bytes ends : List ℕ) (answer : (ℕ → List ℕ) → List ℕ) (old : List ℕ) (at : ℕ) (new : List ℕ) (next : ℕ) → Type 0
Answered bytes ends answer old at new next = PutWithin (100 + 2 * get_or ends 8 0) old at (answer (part_in bytes ends)) new next

-- the answer of a row to the fields of a line is put, and that of a call
abbrev pub RowAnswered : (row : ℕ) (line : List ℕ) (from : ℕ) (old : List ℕ) (at : ℕ) (new : List ℕ) (next : ℕ) → Type 0
RowAnswered row line from old at new next =
    PutWithin (100 + length line) old at ((row_at row).answer (part (fields_of (drop from line)))) new next

abbrev pub CallAnswered : Call → (line : List ℕ) (from : ℕ) (old : List ℕ) (at : ℕ) (new : List ℕ) (next : ℕ) → Type 0
CallAnswered call line from old at new next = RowAnswered (row_number call) line from old at new next
