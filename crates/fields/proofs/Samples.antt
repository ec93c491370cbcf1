-- A number that pins its definition: 3 in four bytes, as the protocol has it, and one whose bytes all count.
-- Assumes nothing.
use mathlib.Core.Path.{◌≡◌, refl}
use mathlib.Core.List.{[], ◌∷◌}
use Rattle.fields.specs.Ends.{number_in}

pub sample_three : number_in (3 ∷ 0 ∷ 0 ∷ 0 ∷ []) ≡ 3
sample_three = refl

pub sample_number : number_in (4 ∷ 3 ∷ 2 ∷ 1 ∷ []) ≡ 16909060
sample_number = refl
