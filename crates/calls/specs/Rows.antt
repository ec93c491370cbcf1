-- The calls, a row each: the word, how many fields follow it, and what is answered to the parts that they give: what the operation
-- says, in words, and the bytes that a lent buffer then holds.
-- Assumes nothing.
use Rattle.std.specs.Prelude.{List, [], ◌∷◌, ◌++◌, map, ℕ, get_or}
use Prim.Native.String.{String}
use Rattle.spec.specs.Fits.{Verdict, fits, broken, test_says, shows_part, bytes_of}
use Rattle.spec.specs.Fill.{fill_says, fill_writes}
use Rattle.spec.specs.Kits.{first_says, first_writes, next_says, next_writes}
use Rattle.text.specs.Spelling.{ascii, field, hex_of}
use Rattle.fields.specs.Words.{place_among}
use Rattle.calls.specs.Words.{words_of, spaced}

-- MAKER DEPOT SHEET OUT
abbrev pub fill_answer : (part : ℕ → List ℕ) → List ℕ
fill_answer p = words_of (field "filled ") (fill_says (p 0) (p 1) (p 2) (p 3)) ++ spaced (fill_writes (p 0) (p 1) (p 2) (p 3))

-- MAKER DEPOT LIST
abbrev pub verdict_words : Verdict → List ℕ
verdict_words fits = ascii "fits"
verdict_words (broken number) = field "broken " number

abbrev pub test_answer : (part : ℕ → List ℕ) → List ℕ
test_answer p = words_of verdict_words (test_says (p 0) (p 1) (p 2))

-- MAKER DEPOT LIST
abbrev pub show_answer : (part : ℕ → List ℕ) → List ℕ
show_answer p = ascii "part " ++ hex_of (bytes_of (p 0) (p 1) (shows_part (p 0) (p 1) (p 2)))

-- MAKER DEPOT SHEET OUT
abbrev pub handed_words : Unit {0} → List ℕ
handed_words _ = ascii "list"

abbrev pub first_answer : (part : ℕ → List ℕ) → List ℕ
first_answer p = words_of handed_words (first_says (p 0) (p 1) (p 2) (p 3)) ++ spaced (first_writes (p 0) (p 1) (p 2) (p 3))

-- MAKER DEPOT SHEET GIVEN OUT
abbrev pub next_answer : (part : ℕ → List ℕ) → List ℕ
next_answer p =
    words_of handed_words (next_says (p 0) (p 1) (p 2) (p 3) (p 4)) ++ spaced (next_writes (p 0) (p 1) (p 2) (p 3) (p 4))

pub record Row : Type 0 where
  pub word : String
  pub many : ℕ
  pub answer : (part : ℕ → List ℕ) → List ℕ

abbrev pub call_rows : List Row
call_rows =
    record { word = "fill"; many = 4; answer = fill_answer }
    ∷ record { word = "test"; many = 3; answer = test_answer }
    ∷ record { word = "show"; many = 3; answer = show_answer }
    ∷ record { word = "first"; many = 4; answer = first_answer }
    ∷ record { word = "next"; many = 5; answer = next_answer }
    ∷ []

abbrev pub no_row : Row
no_row = record { word = ""; many = 0; answer = λ part. [] }

-- a row by its number
unfoldable pub row_at : ℕ → Row
row_at k = get_or call_rows k no_row

-- the number of the row that has this word; where none has it, how many rows there are
unfoldable pub row_of : List ℕ → ℕ
row_of w = place_among w (map (λ r. ascii r.word) call_rows)
