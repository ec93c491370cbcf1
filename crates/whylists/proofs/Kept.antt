-- Where the maker refuses, the buffer is left as it was.
-- Assumes nothing.
use mathlib.Core.Path.{◌≡◌}
use mathlib.Core.List.{List}
use Prim.Native.Nat.{ℕ}
use Rattle.spec.specs.Refusals.{Refusal, refused}
use Rattle.spec.proofs.Kept.{kept}
use Rattle.whylists.specs.Ours.{ours, lines_bytes}
use Rattle.whylists.specs.Says.{at_head, why_says, why_writes}

pub why_kept : (maker depot sheet out : List ℕ) (why : Refusal) → why_says maker depot sheet out ≡ refused why → why_writes maker depot sheet out ≡ out
unfolding why_writes
why_kept maker depot sheet out why = kept (at_head (lines_bytes (ours maker depot sheet)) out) out
