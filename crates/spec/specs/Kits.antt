-- First and Next: the full lists in their order, those that keep the settled boxes and fit every rule, and which is handed out.
-- Assumes nothing.
use Rattle.std.specs.Prelude.{Bool, true, false, not, ◌&&◌, ◌||◌, List, [], ◌∷◌, ◌++◌, map, ℕ, zero, suc, ltb, eqb, length, get_or}
use Rattle.lemmas.specs.Lists.{all, any, those, upto}
use Rattle.spec.specs.Records.{rules_in}
use Rattle.spec.specs.Refusals.{Said, reason, answered, Check, judge, written, order_checks, next_checks}
use Rattle.spec.specs.Fits.{breaks}

-- every full list of n boxes, ascending: box 0 counts most, out before in
abbrev pub full_lists : ℕ → List (List ℕ)
full_lists zero = [] ∷ []
full_lists (suc n) = map (λ l. 0 ∷ l) (full_lists n) ++ map (λ l. 1 ∷ l) (full_lists n)

-- lists are compared at their lowest differing box; the one with 0 comes first
abbrev pub before : List ℕ → List ℕ → Bool
before [] [] = false
before [] (b ∷ k) = false
before (a ∷ l) [] = false
before (a ∷ l) (b ∷ k) = ltb a b || (eqb a b && before l k)

-- the list keeps the sheet's settled boxes
unfoldable pub keeps : List ℕ → List ℕ → Bool
keeps sheet l = all (λ b. eqb (get_or sheet b 2) 2 || eqb (get_or l b 2) (get_or sheet b 2)) (upto (length sheet))

-- the list makes every rule true
unfoldable pub fits_all : List ℕ → List ℕ → List ℕ → Bool
fits_all maker depot l = not (any (breaks l) (rules_in maker depot))

-- the full lists that keep the settled boxes and fit every rule, ascending
unfoldable pub kits : List ℕ → List ℕ → List ℕ → List (List ℕ)
kits maker depot sheet = those (λ l. keeps sheet l && fits_all maker depot l) (full_lists (length sheet))

-- those strictly after the given list
unfoldable pub kits_after : List ℕ → List ℕ → List ℕ → List ℕ → List (List ℕ)
kits_after maker depot sheet given = those (before given) (kits maker depot sheet)

unfoldable pub is_none : List (List ℕ) → Bool
is_none [] = true
is_none (l ∷ ls) = false

-- the first of them; nothing is handed out where there is none
unfoldable pub head_of : List (List ℕ) → List ℕ
head_of [] = []
head_of (l ∷ ls) = l

-- 9: no such full list
unfoldable pub none_check : List (List ℕ) → Check
none_check ls = record { when = is_none ls; why = reason 9 0 }

-- a list is handed out: nothing is said besides
abbrev pub handed_out : Said (Unit {0})
handed_out = answered tt

-- what is said of a call in form: 9, or that a list is handed out
abbrev pub hands_out : List (List ℕ) → Said (Unit {0})
hands_out ls = judge (none_check ls ∷ []) handed_out

unfoldable pub first_says : List ℕ → List ℕ → List ℕ → List ℕ → Said (Unit {0})
first_says maker depot sheet out = judge (order_checks maker depot sheet out) (hands_out (kits maker depot sheet))

unfoldable pub first_writes : List ℕ → List ℕ → List ℕ → List ℕ → List ℕ
first_writes maker depot sheet out = written (first_says maker depot sheet out) (head_of (kits maker depot sheet)) out

unfoldable pub next_says : List ℕ → List ℕ → List ℕ → List ℕ → List ℕ → Said (Unit {0})
next_says maker depot sheet given out =
    judge (next_checks maker depot sheet given out) (hands_out (kits_after maker depot sheet given))

unfoldable pub next_writes : List ℕ → List ℕ → List ℕ → List ℕ → List ℕ → List ℕ
next_writes maker depot sheet given out =
    written (next_says maker depot sheet given out) (head_of (kits_after maker depot sheet given)) out
