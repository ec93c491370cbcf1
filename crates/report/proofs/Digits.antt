-- How many digits a list has.
-- Assumes nothing.
use mathlib.Core.Path.{◌≡◌, refl, ◌∙◌}
use mathlib.Core.List.{List}
use Prim.Native.Nat.{ℕ}
use native.Mathlib.Omega.{arith}
use lib.ListN.{length}
use Rattle.text.specs.Spelling.{digit, digits_of}
use Rattle.text.proofs.Spells.{spelt_length}

-- a digit a byte
pub digits_length : (l : List ℕ) → length (digits_of l) ≡ length l
unfolding digits_of
digits_length l = spelt_length digit 1 (λ b. refl) l ∙ omega arith
