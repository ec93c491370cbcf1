-- Enough rounds: there are two facts a box, and a round that adds none changes nothing. So after two rounds a box the list is at
-- rest.
-- Assumes nothing.
use mathlib.Core.Path.{◌≡◌}
use mathlib.Core.Bool.{Bool, true, false}
use mathlib.Core.List.{List}
use Prim.Native.Nat.{ℕ, zero, suc, ◌+◌, ◌*◌, ◌≤◌}
use native.Mathlib.Omega.{arith}
use native.Mathlib.Decide.{dec_le}
use lib.Dec.{T}
use lib.ListN.{length}
use Rattle.lemmas.specs.Lists.{count, upto}
use Rattle.lemmas.proofs.Members.{upto_member, length_upto}
use Rattle.lemmas.proofs.Counts.{count_length, count_mono, count_back}
use Rattle.spec.specs.Records.{Rec}
use Rattle.spec.specs.Facts.{holds}
use Rattle.spec.specs.Rounds.{round, rounds, closed}
use Rattle.spec.proofs.Codes.{Codes, holds_below, codes_unique}
use Rattle.spec.proofs.Rounding.{round_length, round_codes, round_keeps, rounds_rest}

-- how many of the first n boxes have this fact
abbrev held : ℕ → List ℕ → Bool → ℕ
held n s state = count (λ b. holds s b state) (upto n)

-- how many facts the first n boxes have
abbrev pub fact_count : ℕ → List ℕ → ℕ
fact_count n s = held n s false + held n s true

pub fact_count_most : (n : ℕ) (s : List ℕ) → fact_count n s ≤ 2 * n
fact_count_most n s =
    omega (
      arith,
      count_length (λ b. holds s b false) (upto n),
      count_length (λ b. holds s b true) (upto n),
      length_upto n,
    )

module _ (qs : List Rec) (s : List ℕ) where
  held_mono : (state : Bool) → held (length s) s state ≤ held (length s) (round qs s) state
  held_mono state =
      count_mono (λ b. holds s b state) (λ b. holds (round qs s) b state) (upto (length s)) (λ b m. round_keeps qs s b state)

  -- a round that adds no fact changes nothing
  pub round_still : Codes s → fact_count (length s) (round qs s) ≤ fact_count (length s) s → round qs s ≡ s
  round_still small none =
      codes_unique (round qs s) s (round_codes qs s) small (round_length qs s)
      (λ b state. (back b state, round_keeps qs s b state))
    where
      none_of : (state : Bool) → held (length s) (round qs s) state ≤ held (length s) s state
      none_of true = omega (arith, held_mono false)
      none_of false = omega (arith, held_mono true)

      back : (b : ℕ) (state : Bool) → T (holds (round qs s) b state) → T (holds s b state)
      back b state t =
          count_back (λ c. holds s c state) (λ c. holds (round qs s) c state)
          (λ c m. round_keeps qs s c state)
          (none_of state)
          (upto_member (rw round_length at (holds_below (round qs s) b state t)))
          t

-- rounds enough for the facts that are still missing
pub rounds_enough : (qs : List Rec) (k : ℕ) (s : List ℕ) → Codes s → 2 * length s ≤ fact_count (length s) s + k →
    round qs (rounds qs k s) ≡ rounds qs k s
rounds_enough qs zero s small most =
    round_still qs s small (omega (arith, fact_count_most (length s) (round qs s)))
rounds_enough qs (suc k) s small most =
    step
    (dec_le (fact_count (length s) (round qs s)) (fact_count (length s) s))
    (rounds_enough qs k (round qs s) (round_codes qs s))
  where
    step : Dec (fact_count (length s) (round qs s) ≤ fact_count (length s) s) →
        (2 * length (round qs s) ≤ fact_count (length (round qs s)) (round qs s) + k →
        round qs (rounds qs k (round qs s)) ≡ rounds qs k (round qs s)) →
        round qs (rounds qs k (round qs s)) ≡ rounds qs k (round qs s)
    step (yes none) rest =
        let same = round_still qs s small none in
        rw (same, rounds_rest qs k s same) same
    step (no some) rest = rest (rw round_length (omega arith))

pub closed_rest : (qs : List Rec) (s : List ℕ) → Codes s → round qs (closed qs s) ≡ closed qs s
unfolding closed
closed_rest qs s small = rounds_enough qs (2 * length s) s small (omega arith)
