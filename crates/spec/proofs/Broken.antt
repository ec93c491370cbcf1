-- What is known of a call where Test names a broken record: the tables are accepted, and the record is one of theirs.
-- Assumes nothing.
use mathlib.Core.Path.{◌≡◌, refl, sym, ◌∙◌, ap}
use mathlib.Core.Bool.{Bool, true, false, cond}
use mathlib.Core.List.{List}
use Prim.Native.Nat.{ℕ, ◌*◌, ◌-◌, ◌≤◌, ◌<◌}
use native.Mathlib.Omega.{arith}
use borrow.Author.Tests.{ltb-true, lt-ltb, le-ltb}
use lib.Dec.{ltb}
use lib.ListN.{length}
use Rattle.spec.specs.Records.{record_count}
use Rattle.spec.specs.Refusals.{answered}
use Rattle.spec.specs.Fits.{fits, broken, first_broken, test_checks, test_judges, test_says, Part, record_part, part_for, shows_part}
use Rattle.spec.proofs.Judge.{judge_reached}
use Rattle.spec.proofs.Accepted.{Accepted, test_accepted}

pub tested_broken : (count first number : ℕ) → answered (cond (ltb first count) (broken first) fits) ≡ answered (broken number) → (first ≡ number) × (first < count)
tested_broken count first number e = go (ltb first count) refl e
  where
    go : (t : Bool) → ltb first count ≡ t → answered (cond t (broken first) fits) ≡ answered (broken number) → (first ≡ number) × (first < count)
    go true known e = (cc, ltb-true first count known)
    go false known e = let z : ◌≡◌ {A = ℕ} 0 1 = cc in absurd (omega arith)

pub record BrokenIs (maker depot l : List ℕ) (number : ℕ) : Type 0 where
  pub accepted : Accepted (length l) maker depot
  pub below : number < record_count maker depot

pub broken_is : (maker depot l : List ℕ) (number : ℕ) → answered (broken number) ≡ test_says maker depot l → BrokenIs maker depot l number
unfolding test_says test_judges
broken_is maker depot l number e =
    let reached = judge_reached (test_checks maker depot l) _ (sym e) in
    let first = tested_broken (record_count maker depot) (first_broken maker depot l) number reached.1 in
    record { accepted = test_accepted maker depot l reached.0; below = omega (arith, first.0, first.1) }

-- where a record lies: in the maker's table, or in the depot's
module _ (maker : List ℕ) (number : ℕ) where
  pub part_maker : 8 * number < length maker → record_part maker number ≡ record { depots = false; start = 8 * number; size = 8 }
  unfolding record_part
  part_maker h = rw (lt-ltb _ _ h)

  pub part_depot : length maker ≤ 8 * number → record_part maker number ≡ record { depots = true; start = 8 * number - length maker; size = 8 }
  unfolding record_part
  part_depot h = rw (le-ltb _ _ h)

  pub part_start : (record_part maker number).start ≤ 8 * number
  unfolding record_part
  part_start = go (ltb (8 * number) (length maker))
    where
      go : (t : Bool) →
          (cond {A = Part} t (record { depots = false; start = 8 * number; size = 8 })
          (record { depots = true; start = 8 * number - length maker; size = 8 })).start ≤ 8 * number
      go true = omega arith
      go false = omega arith

-- where the first broken record is shown
module _ (maker depot l : List ℕ) (number : ℕ) (e : answered (broken number) ≡ test_says maker depot l) where
  pub shows_maker : 8 * number < length maker → shows_part maker depot l ≡ record { depots = false; start = 8 * number; size = 8 }
  unfolding shows_part
  shows_maker h = ap (part_for maker) (sym e) ∙ part_maker maker number h

  pub shows_depot : length maker ≤ 8 * number → shows_part maker depot l ≡ record { depots = true; start = 8 * number - length maker; size = 8 }
  unfolding shows_part
  shows_depot h = ap (part_for maker) (sym e) ∙ part_depot maker number h
