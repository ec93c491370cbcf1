-- Test and Show agree: where Test names a record, Show's part has its eight bytes; else the part is empty, at the start of the
-- maker's table.
-- Assumes nothing.
use mathlib.Core.Path.{◌≡◌, refl, ap, sym, ◌∙◌}
use mathlib.Core.Bool.{Bool, true, false, cond}
use mathlib.Core.List.{List, ◌++◌}
use Prim.Native.Nat.{ℕ, ◌+◌, ◌*◌, ◌-◌, ◌%◌, ◌≤◌, ◌<◌}
use native.Mathlib.Omega.{arith}
use borrow.Author.Tests.{ltb-true, ltb-false}
use lib.Dec.{ltb}
use lib.ListN.{length, take, drop, length-drop}
use lib.Seq.{take-append-le, drop-append-le, drop-append-add}
use Rattle.spec.specs.Refusals.{Said, refused, answered}
use Rattle.spec.proofs.Broken.{broken_is}
use Rattle.spec.specs.Fits.{Verdict, fits, broken, Part, test_says, record_part, part_for, shows_part, bytes_of}

abbrev empty_part : Part
empty_part = record { depots = false; start = 0; size = 0 }

-- a record of the two tables taken as one
abbrev pub eight_bytes : List ℕ → List ℕ → ℕ → List ℕ
eight_bytes maker depot number = take 8 (drop (8 * number) (maker ++ depot))

module _ (maker depot : List ℕ) (number : ℕ) where
  in_maker : length maker % 8 ≡ 0 → 8 * number < length maker → take 8 (drop (8 * number) maker) ≡ eight_bytes maker depot number
  in_maker whole h =
      sym
      (ap (take 8) (drop-append-le (8 * number) maker depot (omega arith))
      ∙ take-append-le 8 (drop (8 * number) maker) depot room)
    where
      room : 8 ≤ length (drop (8 * number) maker)
      room = rw length-drop (omega (arith, whole))

  in_depot : length maker ≤ 8 * number → take 8 (drop (8 * number - length maker) depot) ≡ eight_bytes maker depot number
  in_depot h =
      ap (take 8)
      (sym (drop-append-add maker depot (8 * number - length maker))
      ∙ ap (λ (k : ℕ). drop k (maker ++ depot)) sums)
    where
      sums : length maker + (8 * number - length maker) ≡ 8 * number
      sums = omega arith

  record_bytes : length maker % 8 ≡ 0 → bytes_of maker depot (record_part maker number) ≡ eight_bytes maker depot number
  unfolding bytes_of record_part
  record_bytes whole = go (ltb (8 * number) (length maker)) refl
    where
      go : (t : Bool) → ltb (8 * number) (length maker) ≡ t →
          bytes_of maker depot
          (cond t (record { depots = false; start = 8 * number; size = 8 })
          (record { depots = true; start = 8 * number - length maker; size = 8 }))
          ≡ eight_bytes maker depot number
      go true e = in_maker whole (ltb-true _ _ e)
      go false e = in_depot (ltb-false _ _ e)

  pub shown_record : (l : List ℕ) → test_says maker depot l ≡ answered (broken number) → bytes_of maker depot (shows_part maker depot l) ≡ eight_bytes maker depot
      number
  unfolding shows_part
  shown_record l e =
      ap (λ (a : Said Verdict). bytes_of maker depot (part_for maker a)) e
      ∙ record_bytes (broken_is maker depot l number (sym e)).accepted.whole.makers

-- an answer that names no record
abbrev pub NamesNone : Said Verdict → Type 0
NamesNone a = (number : ℕ) → a ≡ answered (broken number) → ⊥

pub shown_empty : (maker depot l : List ℕ) → NamesNone (test_says maker depot l) → shows_part maker depot l ≡ empty_part
unfolding shows_part
shown_empty maker depot l none = go (test_says maker depot l) none
  where
    go : (a : Said Verdict) → NamesNone a → part_for maker a ≡ empty_part
    go (refused why) h = refl
    go (answered fits) h = refl
    go (answered (broken number)) h = absurd (h number refl)
