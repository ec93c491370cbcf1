-- Spellings that pin the definitions.
-- Assumes nothing.
use mathlib.Core.Path.{◌≡◌, refl}
use mathlib.Core.List.{[], ◌∷◌}
use Rattle.text.specs.Spelling.{ascii, decimal, digits_of, hex_of}

pub sample_text : ascii "end\n" ≡ 101 ∷ 110 ∷ 100 ∷ 10 ∷ []
sample_text = refl

-- 0, 62 and 1024
pub sample_zero : decimal 0 ≡ 48 ∷ []
unfolding decimal
sample_zero = refl

pub sample_two : decimal 62 ≡ 54 ∷ 50 ∷ []
unfolding decimal
sample_two = refl

pub sample_four : decimal 1024 ≡ 49 ∷ 48 ∷ 50 ∷ 52 ∷ []
unfolding decimal
sample_four = refl

-- the list 0 1 1
pub sample_digits : digits_of (0 ∷ 1 ∷ 1 ∷ []) ≡ 48 ∷ 49 ∷ 49 ∷ []
unfolding digits_of
sample_digits = refl

-- the bytes 3 and 238: 03ee; and none: a dot
pub sample_hex : hex_of (3 ∷ 238 ∷ []) ≡ 48 ∷ 51 ∷ 101 ∷ 101 ∷ []
unfolding hex_of
sample_hex = refl

pub sample_none : hex_of [] ≡ 46 ∷ []
unfolding hex_of
sample_none = refl
