-- One box gets a state, and is noted where that is new.
-- Assumes nothing.
use mathlib.Core.Path.{◌≡◌, refl, sym, subst⁻¹, ◌∙◌}
use mathlib.Core.List.{List}
use Prim.Native.Nat.{ℕ, ◌+◌, ◌<◌, ◌≤◌}
use native.Mathlib.Omega.{arith}
use native.Mathlib.Decide.{ℕ_discrete}
use lib.ListN.{length, get_or, set, length-set}
use lib.Seq.{get_or-set_same, get_or-set_other}
use Rattle.lemmas.proofs.Reading.{get_d_default}
use Rattle.spec.specs.Fill.{open_count}
use Rattle.lemmas.proofs.Reading.{get_d_set}
use Rattle.theory.proofs.Measure.{open_set}
use Rattle.engine.specs.Moves.{Cells}
use Rattle.engine.specs.Queue.{Lent, HasBox, Queued, Settling}
use Rattle.engine.proofs.Queueing.{lent_later}

-- a box below 256 is read inside, so what is read past the end is of no matter
pub cells_read : {s : List ℕ} → Cells s → (b : ℕ) → b < 256 → get_or s b 0 ≡ get_or s b 2
cells_read {s} cells b h = get_d_default s b 0 2 (omega (arith, cells.size))

-- what settling a box comes to
abbrev pub SettledTo : (s t queue queue' : List ℕ) (tail tail' b state : ℕ) → Type 0
SettledTo s t queue queue' tail tail' b state = (t ≡ set s b state) × Queued s t queue queue' tail tail'

module _ {s queue : List ℕ} {tail b state : ℕ} (asked : Settling s queue tail b state) where
  within : b < length s
  within = omega (arith, asked.below, asked.lent.cells.size)

  module _ (new : get_or s b 0 ≡ state → ⊥) where
    -- it is open
    was_open : get_or s b 2 ≡ 2
    was_open = asked.opens (λ e. new (cells_read asked.lent.cells b asked.below ∙ e))

    fewer : open_count (set s b state) < open_count s
    fewer = open_set s b state within was_open (omega (arith, was_open, cells_read asked.lent.cells b asked.below))

    -- an open box gives the queue room for one more
    pub settle_room : tail < 256
    settle_room = omega (arith, fewer, asked.lent.room)

    pub settle_new : SettledTo s (set s b state) queue (set queue tail b) tail (tail + 1) b state
    settle_new = (
      refl,
      record {
        later = omega arith;
        room = omega (arith, fewer);
        size = length-set queue tail b;
        kept = λ i h. get_or-set_other queue tail i b 0 (λ e. omega arith);
        changed = λ c differ. at c differ (ℕ_discrete c b);
      },
    )
      where
        at : (c : ℕ) → (get_or (set s b state) c 2 ≡ get_or s c 2 → ⊥) → Dec (c ≡ b) → HasBox (set queue tail b) tail (tail + 1) c
        at c differ (yes same) =
            record {
              at = tail;
              after = omega arith;
              before = omega arith;
              is = get_or-set_same queue tail b 0 (omega (arith, settle_room, asked.lent.size)) ∙ sym same;
            }
        at c differ (no other) = absurd (differ (get_or-set_other s b c state 2 other))

  -- once it is settled, states and queue can be lent on
  pub settle_lent : {t queue' : List ℕ} {tail' : ℕ} → SettledTo s t queue queue' tail tail' b state → Lent t queue' tail'
  settle_lent done = lent_later asked.lent (subst⁻¹ Cells done.0 cells) done.1
    where
      cells : Cells (set s b state)
      cells =
          record {
            size = length-set s b state ∙ asked.lent.cells.size;
            sheet = get_d_set (λ c. c ≤ 2) s b state 2 asked.settled asked.lent.cells.sheet;
          }
