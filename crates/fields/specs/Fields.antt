-- The fields of a line, and the bytes that a field gives. They compute.
-- Assumes nothing.
use Rattle.std.specs.Prelude.{Bool, cond, not, ◌&&◌, ◌||◌, List, [], ◌∷◌, ℕ, ◌+◌, ◌*◌, ◌%◌, Option, Some, None, ltb, eqb, length, get_or}
use Prim.Native.String.{String}
use Rattle.lemmas.specs.Lists.{all}
use Rattle.lemmas.specs.Lowest.{lowest}
use Rattle.lemmas.specs.Same.{same_list}
use Rattle.text.specs.Spelling.{ascii}
use Rattle.fields.specs.Cuts.{cut_at}

-- the fields of a line, parted by one space (32)
abbrev pub fields_of : List ℕ → List (List ℕ)
fields_of line = cut_at 32 line

-- the value of a lowercase hexadecimal digit: its place among the sixteen, and 16 where it is none of them
unfoldable pub digit_of : ℕ → ℕ
digit_of c = lowest (λ i. eqb c (get_or (ascii "0123456789abcdef") i 0)) 16

unfoldable pub is_digit : ℕ → Bool
is_digit c = ltb (digit_of c) 16

-- the value of a digit, and none for any other character
unfoldable pub digit_in : ℕ → Option ℕ
digit_in c = cond (is_digit c) (Some (digit_of c)) None

-- an even number of characters, and not none
unfoldable pub paired_up : List ℕ → Bool
paired_up f = not (eqb (length f) 0) && eqb (length f % 2) 0

-- the bytes are those of the text
unfoldable pub is : List ℕ → String → Bool
is w text = same_list eqb w (ascii text)

-- a dot, or digits in pairs
unfoldable pub is_field : List ℕ → Bool
is_field f = is f "." || (paired_up f && all is_digit f)

-- two digits a byte; the dot, a single character, gives none
abbrev pub bytes_in : List ℕ → List ℕ
bytes_in [] = []
bytes_in (high ∷ []) = []
bytes_in (high ∷ low ∷ f) = (16 * digit_of high + digit_of low) ∷ bytes_in f

-- the part that field number k gives
abbrev pub part : List (List ℕ) → ℕ → List ℕ
part fs k = bytes_in (get_or fs k [])
