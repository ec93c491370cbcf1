-- The computed closure is the least set: it holds exactly the closure's facts, and no other list of codes does.
-- Assumes nothing.
use mathlib.Core.Path.{◌≡◌}
use mathlib.Core.Logic.{◌↔◌}
use mathlib.Core.Bool.{Bool}
use mathlib.Core.List.{List}
use Prim.Native.Nat.{ℕ, ◌*◌}
use lib.Dec.{T}
use lib.ListN.{length}
use Rattle.spec.specs.Records.{Rec}
use Rattle.spec.specs.Facts.{FactsOf, Closed, Closure, holds}
use Rattle.spec.specs.Rounds.{closed}
use Rattle.spec.proofs.Least.{Inside, closure_least}
use Rattle.spec.proofs.Named.{Within}
use Rattle.spec.proofs.Codes.{Codes, codes_unique}
use Rattle.spec.proofs.Rounding.{round_rest, rounds_length, rounds_codes, rounds_sound, rounds_keeps, rounds_rest}
use Rattle.spec.proofs.Enough.{closed_rest}

module _ (qs : List Rec) (s : List ℕ) where
  pub closed_length : length (closed qs s) ≡ length s
  unfolding closed
  closed_length = rounds_length qs (2 * length s) s

  -- nothing is lost
  pub closed_keeps : Inside (FactsOf s) (FactsOf (closed qs s))
  unfolding closed
  closed_keeps = rounds_keeps qs (2 * length s) s

  -- nothing is made up
  pub closed_sound : Inside (FactsOf (closed qs s)) (Closure qs s)
  unfolding closed
  closed_sound = rounds_sound qs (2 * length s) s

  module _ (small : Codes s) where
    pub closed_codes : Codes (closed qs s)
    unfolding closed
    closed_codes = rounds_codes qs (2 * length s) s small

    -- filling again changes nothing
    pub closed_idempotent : closed qs (closed qs s) ≡ closed qs s
    unfolding closed
    closed_idempotent = rounds_rest qs (2 * length (closed qs s)) (closed qs s) (closed_rest qs s small)

    module _ (within : Within (length s) qs) where
      -- every rule that can fire has fired
      pub closed_closed : Closed qs (FactsOf (closed qs s))
      closed_closed = round_rest qs (closed qs s) (rw closed_length within) (closed_rest qs s small)

      -- nothing is left out
      pub closed_complete : Inside (Closure qs s) (FactsOf (closed qs s))
      closed_complete = closure_least qs s (FactsOf (closed qs s)) closed_keeps closed_closed

      pub closed_closure : (b : ℕ) (state : Bool) → T (holds (closed qs s) b state) ↔ Closure qs s b state
      closed_closure b state = (closed_sound b state, closed_complete b state)

      -- codes of the sheet's length that hold exactly the derived facts are these
      pub closed_unique : (t : List ℕ) → Codes t → length t ≡ length s →
          ((b : ℕ) (state : Bool) → T (holds t b state) ↔ Closure qs s b state) → t ≡ closed qs s
      closed_unique t small-t same exact =
          codes_unique t (closed qs s) small-t closed_codes (rw (closed_length, same))
          (λ b state.
          (λ h. closed_complete b state ((exact b state).0 h), λ h. (exact b state).1 (closed_sound b state h)))
