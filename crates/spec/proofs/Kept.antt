-- No refusal writes anything: what a refused call leaves in the out buffer is what was there.
-- Assumes nothing.
use mathlib.Core.Path.{◌≡◌, ap}
use mathlib.Core.List.{List}
use Prim.Native.Nat.{ℕ}
use Rattle.spec.specs.Refusals.{Refusal, Said, refused, written}
use Rattle.spec.specs.Fill.{closure_of, fill_says, fill_writes}
use Rattle.spec.specs.Kits.{kits, kits_after, head_of, first_says, first_writes, next_says, next_writes}

-- whatever the operation
pub kept : {A : Type 0} {said : Said A} {why : Refusal} (new old : List ℕ) → said ≡ refused why → written said new old ≡ old
kept {A} new old e = ap (λ (s : Said A). written s new old) e

module _ (maker depot sheet out : List ℕ) (why : Refusal) where
  pub fill_kept : fill_says maker depot sheet out ≡ refused why → fill_writes maker depot sheet out ≡ out
  unfolding fill_writes
  fill_kept = kept (closure_of maker depot sheet) out

  pub first_kept : first_says maker depot sheet out ≡ refused why → first_writes maker depot sheet out ≡ out
  unfolding first_writes
  first_kept = kept (head_of (kits maker depot sheet)) out

  pub next_kept : (given : List ℕ) → next_says maker depot sheet given out ≡ refused why → next_writes maker depot sheet given out ≡ out
  unfolding next_writes
  next_kept given = kept (head_of (kits_after maker depot sheet given)) out
