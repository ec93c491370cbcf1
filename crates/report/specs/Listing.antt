-- What the listing program writes, byte by byte. Fields of a line are parted by one space, numbers are decimal, and each line
-- ends with one line feed.
-- Assumes nothing.
use Rattle.std.specs.Prelude.{cond, List, ◌++◌, ℕ, ltb, length, take}
use Rattle.text.specs.Spelling.{ascii, field, spelt, digits_of}
use Rattle.spec.specs.Records.{record_count}
use Rattle.spec.specs.Refusals.{Refusal, Said, refused, answered}
use Rattle.spec.specs.Fill.{open_count, fill_says, fill_writes}
use Rattle.spec.specs.Kits.{kits}
use Rattle.refusals.specs.Telling.{refused_words}

-- Fill refuses
unfoldable pub refused_line : Refusal → List ℕ
refused_line why = refused_words why ++ ascii "\n"

-- the boxes, the records, the boxes filled, and the boxes left open
unfoldable pub header_line : (n rules boxes left : ℕ) → List ℕ
header_line n rules boxes left =
    field "positions " n ++ field " rules " rules ++ field " filled " boxes ++ field " open " left ++ ascii "\n"

-- a list
unfoldable pub list_line : List ℕ → List ℕ
list_line l = digits_of l ++ ascii "\n"

-- the last line: `more` where a 65th list exists, else the number of lists
unfoldable pub end_line : ℕ → List ℕ
end_line lists = field "end " lists ++ ascii "\n"

unfoldable pub last_line : List (List ℕ) → List ℕ
last_line ls = cond (ltb 64 (length ls)) (ascii "more\n") (end_line (length ls))

-- at most 64 lists, and the last line
unfoldable pub kit_lines : List (List ℕ) → List ℕ
kit_lines ls = spelt list_line (take 64 ls) ++ last_line ls

-- by what Fill says, with an out buffer of the sheet's length
unfoldable pub listing_by : (maker depot sheet : List ℕ) → Said ℕ → List ℕ
listing_by maker depot sheet (refused why) = refused_line why
listing_by maker depot sheet (answered boxes) =
    header_line (length sheet) (record_count maker depot) boxes (open_count (fill_writes maker depot sheet sheet))
    ++ kit_lines (kits maker depot sheet)

unfoldable pub listing_of : (maker depot sheet : List ℕ) → List ℕ
listing_of maker depot sheet = listing_by maker depot sheet (fill_says maker depot sheet sheet)

-- room for the longest listing, and for its lists and last line: 64 lists of 257 bytes at most, the header before them
abbrev pub page : ℕ
page = 17000

abbrev pub lists_page : ℕ
lists_page = 16500
