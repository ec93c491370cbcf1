-- A list of lines is read back from its bytes.
-- Assumes nothing.
use mathlib.Core.Path.{◌≡◌, refl, sym, ap, ◌∙◌}
use mathlib.Core.List.{List, [], ◌∷◌, ◌++◌}
use Prim.Native.Nat.{ℕ, zero, suc, ◌+◌, ◌*◌, ◌/◌, ◌%◌, ◌≤◌, ◌<◌}
use native.Mathlib.Omega.{arith}
use lib.ListN.{length, get_or, set, take}
use lib.Seq.{take-suc}
use Rattle.whylists.specs.Lines.{Line, line_from, line_at, known}
use Rattle.whylists.specs.Ours.{line_bytes, lines_bytes}
use Rattle.whylists.specs.After.{states_after}

-- the k-th line; past the end any
abbrev blank : Line
blank = record { box = 0; state = 0; byte3 = 0; number = 0; bytes67 = 0 }

abbrev pub nth : List Line → ℕ → Line
nth l k = get_or l k blank

joined : (n : ℕ) → n % 256 + 256 * (n / 256) ≡ n
joined n = omega arith

-- the first line of a list's bytes
first_line : (a : Line) (rest : List ℕ) → line_from (line_bytes a ++ rest) 0 ≡ a
unfolding line_from
first_line a rest =
    λ i. record { box = joined a.box i; state = a.state; byte3 = a.byte3; number = joined a.number i; bytes67 = joined a.bytes67 i }

-- a later one
later_byte : (a : Line) (rest : List ℕ) (i j : ℕ) → j ≡ 8 + i → get_or (line_bytes a ++ rest) j 0 ≡ get_or rest i 0
later_byte a rest i j e = rw (e ∙ eight)
  where
    eight : 8 + i ≡ suc (suc (suc (suc (suc (suc (suc (suc i)))))))
    eight = omega arith

later_line : (a : Line) (rest : List ℕ) (k : ℕ) → line_from (line_bytes a ++ rest) (8 * suc k) ≡ line_from rest (8 * k)
unfolding line_from
later_line a rest k =
    rw (
      later_byte a rest (8 * k) (8 * suc k) (omega arith),
      later_byte a rest (8 * k + 1) (8 * suc k + 1) (omega arith),
      later_byte a rest (8 * k + 2) (8 * suc k + 2) (omega arith),
      later_byte a rest (8 * k + 3) (8 * suc k + 3) (omega arith),
      later_byte a rest (8 * k + 4) (8 * suc k + 4) (omega arith),
      later_byte a rest (8 * k + 5) (8 * suc k + 5) (omega arith),
      later_byte a rest (8 * k + 6) (8 * suc k + 6) (omega arith),
      later_byte a rest (8 * k + 7) (8 * suc k + 7) (omega arith),
    )

pub read_back : (l : List Line) (k : ℕ) → k < length l → line_at (lines_bytes l) k ≡ nth l k
unfolding line_at
read_back [] k h = absurd (omega arith)
read_back (a ∷ l) zero h = let none : 8 * 0 ≡ 0 = refl in first_line a (lines_bytes l)
read_back (a ∷ l) (suc k) h = later_line a (lines_bytes l) k ∙ read_back l k (omega arith)

after_more : (s : List ℕ) (l : List Line) (a : Line) → states_after s (l ++ (a ∷ [])) ≡ set (states_after s l) a.box a.state
after_more s [] a = refl
after_more s (b ∷ l) a = after_more (set s b.box b.state) l a

-- what is known above line k is what the lines above leave
pub known_after : (sheet : List ℕ) (l : List Line) (k : ℕ) → k ≤ length l → known sheet (lines_bytes l) k ≡ states_after sheet (take k l)
known_after sheet l zero h = refl
known_after sheet l (suc k) h =
    let a = read_back l k (omega arith) in
    let above = known_after sheet l k (omega arith) in
    rw (a, above)
    (sym (after_more sheet (take k l) (nth l k)) ∙ ap (states_after sheet) (sym (take-suc l k blank (omega arith))))
