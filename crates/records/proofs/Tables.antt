-- A record of the two tables taken as one lies whole in one of them: `record_part` says in which, and where.
-- Assumes nothing.
use mathlib.Core.Path.{◌≡◌, refl, ap, ◌∙◌, subst⁻¹}
use mathlib.Core.Bool.{Bool, true, false, cond}
use mathlib.Core.List.{List, ◌++◌}
use Prim.Native.Nat.{ℕ, ◌+◌, ◌*◌, ◌-◌, ◌≤◌, ◌<◌}
use native.Mathlib.Nat.{add-zero}
use native.Mathlib.Omega.{arith}
use borrow.Author.Tests.{ltb-true, ltb-false}
use lib.Dec.{ltb}
use lib.ListN.{length, get_or, get_or-append}
use lib.Seq.{get_or-append-add}
use Rattle.spec.specs.Records.{rec_from, record_at, record_count, word}
use Rattle.spec.specs.Fits.{Part, record_part}
use Rattle.spec.proofs.Accepted.{WholeRecords}

-- the record of this number lies in the part's table, at the part's start
pub record LiesIn (maker depot : List ℕ) (number : ℕ) (p : Part) : Type 0 where
  pub within : p.start + 8 ≤ length (cond p.depots depot maker)
  pub read : record_at maker depot number ≡ rec_from (cond p.depots depot maker) p.start

-- a record is read from eight bytes alone
rec_from_same : (t u : List ℕ) (at from : ℕ) → ((k : ℕ) → k < 8 → get_or t (at + k) 0 ≡ get_or u (from + k) 0) →
    rec_from t at ≡ rec_from u from
unfolding rec_from
rec_from_same t u at from e i =
    record {
      kind = first i;
      byte1 = e 1 (omega arith) i;
      x = word (e 2 (omega arith) i) (e 3 (omega arith) i);
      y = word (e 4 (omega arith) i) (e 5 (omega arith) i);
      z = word (e 6 (omega arith) i) (e 7 (omega arith) i);
    }
  where
    first : get_or t at 0 ≡ get_or u from 0
    first = simp add-zero at (e 0 (omega arith))

module _ (maker depot : List ℕ) where
  rec_from_maker : (at : ℕ) → at + 8 ≤ length maker → rec_from (maker ++ depot) at ≡ rec_from maker at
  rec_from_maker at h = rec_from_same (maker ++ depot) maker at at (λ k l. get_or-append maker depot 0 (at + k) (omega arith))

  rec_from_depot : (at : ℕ) → length maker ≤ at → rec_from (maker ++ depot) at ≡ rec_from depot (at - length maker)
  rec_from_depot at h =
      rec_from_same (maker ++ depot) depot at (at - length maker)
      (λ k l. ap (λ (j : ℕ). get_or (maker ++ depot) j 0) (sums k) ∙ get_or-append-add maker depot (at - length maker + k) 0)
    where
      sums : (k : ℕ) → at + k ≡ length maker + (at - length maker + k)
      sums k = omega arith

  module _ (whole : WholeRecords maker depot) (number : ℕ) (below : number < record_count maker depot) where
    -- the bytes before a record are fewer than both tables'
    pub record_below : 8 * number < length maker + length depot
    unfolding record_count
    record_below = omega (arith, whole.makers, whole.depots)

    pub record_lies : LiesIn maker depot number (record_part maker number)
    unfolding record_part record_at record_count
    record_lies = at (ltb (8 * number) (length maker)) refl
      where
        at : (makers : Bool) → ltb (8 * number) (length maker) ≡ makers →
            LiesIn maker depot number
            (cond makers (record { depots = false; start = 8 * number; size = 8 })
            (record { depots = true; start = 8 * number - length maker; size = 8 }))
        at true e =
            -- a record that starts among the maker's bytes ends there
            let ends : 8 * number + 8 ≤ length maker = omega (arith, whole.makers, ltb-true (8 * number) (length maker) e) in
            record { within = ends; read = rec_from_maker (8 * number) ends }
        at false e =
            let starts : length maker ≤ 8 * number = ltb-false _ _ e in
            record { within = omega (arith, whole.makers, whole.depots); read = rec_from_depot (8 * number) starts }

-- the record lies where a part that is `record_part`'s says
pub lies : {maker depot : List ℕ} {number : ℕ} {p : Part} → WholeRecords maker depot → number < record_count maker depot →
    p ≡ record_part maker number → LiesIn maker depot number p
lies {maker} {depot} {number} whole below e = subst⁻¹ (LiesIn maker depot number) e (record_lies maker depot whole number below)
