-- Numbers and bytes spelt in ASCII.
-- Assumes nothing.
use Rattle.std.specs.Prelude.{true, false, cond, List, [], ◌∷◌, ◌++◌, ℕ, zero, suc, ◌+◌, ◌/◌, ◌%◌, ltb}
use Prim.Native.Char.{code}
use Prim.Native.String.{String, [] as none, ◌∷◌ as ◌then◌}

-- the bytes of an ASCII text
abbrev pub ascii : String → List ℕ
ascii none = []
ascii (c then s) = code c ∷ ascii s

-- the digits of n, the first of at most 1 + more
abbrev pub decimal_in : (more n : ℕ) → List ℕ
decimal_in zero n = (48 + n) ∷ []
decimal_in (suc more) n = elim (ltb n 10) [ true ↦ (48 + n) ∷ [] | false ↦ decimal_in more (n / 10) ++ (48 + n % 10) ∷ [] ]

-- n in decimal: it has no more than 1 + n digits
unfoldable pub decimal : ℕ → List ℕ
decimal n = decimal_in n n

-- a word and a number, with what parts the word from the field before it and the number from the word
abbrev pub field : String → ℕ → List ℕ
field word n = ascii word ++ decimal n

-- each element spelt by itself, one after the other
abbrev pub spelt : {A : Type 0} → (A → List ℕ) → List A → List ℕ
spelt spell [] = []
spelt spell (a ∷ l) = spell a ++ spelt spell l

-- a byte below 10 as a digit
abbrev pub digit : ℕ → List ℕ
digit b = (48 + b) ∷ []

unfoldable pub digits_of : List ℕ → List ℕ
digits_of l = spelt digit l

-- a number below 16 as a lowercase hexadecimal digit
abbrev pub hex_digit : ℕ → ℕ
hex_digit d = cond (ltb d 10) (48 + d) (87 + d)

abbrev pub hex_pair : ℕ → List ℕ
hex_pair b = hex_digit (b / 16) ∷ hex_digit (b % 16) ∷ []

-- two hexadecimal digits a byte; a dot for no bytes at all
unfoldable pub hex_of : List ℕ → List ℕ
hex_of [] = 46 ∷ []
hex_of (b ∷ l) = spelt hex_pair (b ∷ l)
