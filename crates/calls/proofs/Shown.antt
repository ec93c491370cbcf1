-- The part that Show gives has at most eight bytes.
-- Assumes nothing.
use mathlib.Core.Path.{ap}
use mathlib.Core.Bool.{Bool, true, false, cond}
use mathlib.Core.List.{List}
use Prim.Native.Nat.{ℕ, ◌*◌, ◌≤◌}
use native.Mathlib.Omega.{arith}
use denote.Ref.{Bor}
use lib.Dec.{ltb}
use lib.ListN.{length, drop, length-take}
use Rattle.spec.specs.Refusals.{Said, refused, answered}
use Rattle.fits.specs.Answer.{Shows}
use Rattle.spec.specs.Fits.{Verdict, fits, broken, Part, record_part, part_for, test_says, shows_part, bytes_of}

either_size : (b : Bool) (p q : Part) → p.size ≤ 8 → q.size ≤ 8 → (cond b p q).size ≤ 8
either_size true p q h k = h
either_size false p q h k = k

part_size : (maker : List ℕ) (s : Said Verdict) → (part_for maker s).size ≤ 8
unfolding record_part
part_size maker (refused why) = omega arith
part_size maker (answered fits) = omega arith
part_size maker (answered (broken number)) = either_size (ltb (8 * number) (length maker)) _ _ (omega arith) (omega arith)

shown_size : (maker depot l : List ℕ) → length (bytes_of maker depot (shows_part maker depot l)) ≤ 8
unfolding bytes_of shows_part
shown_size maker depot l =
    let p : Part = part_for maker (test_says maker depot l) in
    omega (arith, length-take p.size (drop p.start (cond p.depots depot maker)), part_size maker (test_says maker depot l))

pub shown_short : {maker depot r : Bor (List ℕ)} (l : List ℕ) → Shows maker depot (shows_part maker.now depot.now l) r → length r.now ≤ 8
shown_short {maker} {depot} l shows = omega (arith, ap length shows.bytes, shown_size maker.now depot.now l)
