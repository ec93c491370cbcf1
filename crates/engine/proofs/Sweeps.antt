-- Sweeps one after the other, until one settles nothing, or the queue takes over.
-- Assumes nothing.
use mathlib.Core.List.{List}
use Prim.Native.Nat.{ℕ, ◌≤◌}
use native.Mathlib.Omega.{arith}
use Rattle.spec.specs.Records.{Rec}
use Rattle.theory.specs.Steps.{Grown}
use Rattle.theory.proofs.Growth.{grown_trans}
use Rattle.engine.specs.Queue.{Lent, AllWait, SweptTo}
use Rattle.engine.proofs.Running.{lent_ran}

-- the boxes that the last one settled are in the queue from `start` on
pub record Sweeps (qs : List Rec) (s t queue : List ℕ) (start end : ℕ) : Type 0 where
  pub lent : Lent t queue end
  pub grown : Grown qs s t
  pub within : start ≤ end
  pub waits : AllWait qs t queue start end

pub sweeps_first : {qs : List Rec} {s t queue queue' : List ℕ} {end : ℕ} → Lent s queue 0 → SweptTo qs s t queue queue' 0 end →
    Sweeps qs s t queue' 0 end
sweeps_first lent swept =
    record {
      lent = lent_ran lent swept.ran;
      grown = swept.ran.grown;
      within = omega arith;
      waits = swept.waits;
    }

module _ {qs : List Rec} {s t queue : List ℕ} {start end : ℕ} (so : Sweeps qs s t queue start end) where
  pub sweeps_next : {u queue' : List ℕ} {end' : ℕ} → SweptTo qs t u queue queue' end end' → Sweeps qs s u queue' end end'
  sweeps_next swept =
      record {
        lent = lent_ran so.lent swept.ran;
        grown = grown_trans so.grown swept.ran.grown;
        within = swept.ran.queued.later;
        waits = swept.waits;
      }
