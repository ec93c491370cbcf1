-- How many lines our list has at most, and how many bytes a list of lines takes.
-- Assumes nothing.
use mathlib.Core.Path.{◌≡◌, refl, ◌∙◌}
use mathlib.Core.Bool.{Bool, true, false, cond}
use mathlib.Core.List.{List, [], ◌∷◌}
use Prim.Native.Nat.{ℕ, zero, suc, ◌*◌, ◌≤◌}
use native.Mathlib.Omega.{arith}
use lib.Dec.{ltb}
use lib.ListN.{length, set, length-append}
use Rattle.whylists.specs.Lines.{Line}
use Rattle.whylists.specs.Ours.{next_box, state_by, next_line, lines_from, lines_bytes, line_bytes}

pub lines_few : (maker depot : List ℕ) (k : ℕ) (s : List ℕ) → length (lines_from maker depot k s) ≤ k
lines_few maker depot zero s = omega arith
lines_few maker depot (suc k) s =
    at (ltb (next_box maker depot s) (length s)) (lines_few maker depot k (set s (next_box maker depot s) (state_by maker depot s)))
  where
    at : (goes : Bool) → length (lines_from maker depot k (set s (next_box maker depot s) (state_by maker depot s))) ≤ k →
        length (cond goes (next_line maker depot s ∷ lines_from maker depot k (set s (next_box maker depot s) (state_by maker depot s))) []) ≤ suc k
    at true few = omega (arith, few)
    at false few = omega arith

pub bytes_length : (l : List Line) → length (lines_bytes l) ≡ 8 * length l
bytes_length [] = refl
bytes_length (a ∷ l) = length-append (line_bytes a) (lines_bytes l) ∙ (let e = bytes_length l in omega (arith, e))
