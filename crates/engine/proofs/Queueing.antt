-- The queue only grows: what it holds stays, and growing twice is growing.
-- Assumes nothing.
use mathlib.Core.Path.{◌≡◌, refl, ◌∙◌}
use mathlib.Core.List.{List}
use Prim.Native.Nat.{ℕ, ◌≤◌}
use native.Mathlib.Omega.{arith}
use native.Mathlib.Decide.{ℕ_discrete}
use lib.ListN.{get_or}
use Rattle.engine.specs.Moves.{Cells}
use Rattle.engine.specs.Queue.{Lent, HasBox, Queued}

-- a box in a part of the queue is in every larger part
pub has_within : {queue : List ℕ} {from to from' to' b : ℕ} → from' ≤ from → to ≤ to' → HasBox queue from to b → HasBox queue from' to' b
has_within less more h = record { at = h.at; after = omega arith; before = omega arith; is = h.is }

-- and stays there
pub has_later : {s t queue queue' : List ℕ} {tail tail' from b : ℕ} → Queued s t queue queue' tail tail' →
    HasBox queue from tail b → HasBox queue' from tail' b
has_later grew h =
    record { at = h.at; after = h.after; before = omega arith; is = grew.kept h.at h.before ∙ h.is }

pub queued_refl : (s queue : List ℕ) (tail : ℕ) → Queued s s queue queue tail tail
queued_refl s queue tail =
    record {
      later = omega arith;
      room = omega arith;
      size = refl;
      kept = λ i h. refl;
      changed = λ b differ. absurd (differ refl);
    }

pub queued_trans : {s t u queue queue' queue'' : List ℕ} {tail tail' tail'' : ℕ} → Queued s t queue queue' tail tail' →
    Queued t u queue' queue'' tail' tail'' → Queued s u queue queue'' tail tail''
queued_trans {s} {t} {u} {queue'' = queue''} {tail} {tail'' = tail''} first second =
    record {
      later = omega arith;
      room = omega arith;
      size = second.size ∙ first.size;
      kept = λ i h. second.kept i (omega arith) ∙ first.kept i h;
      changed = λ b differ. at b differ (ℕ_discrete (get_or t b 2) (get_or s b 2));
    }
  where
    -- a box that the first did not change was changed by the second
    at : (b : ℕ) → (get_or u b 2 ≡ get_or s b 2 → ⊥) → Dec (get_or t b 2 ≡ get_or s b 2) → HasBox queue'' tail tail'' b
    at b differ (yes same) = has_within first.later (omega arith) (second.changed b (λ e. differ (e ∙ same)))
    at b differ (no moved) = has_later second (first.changed b moved)

-- states and queue can be lent on
pub lent_later : {s t queue queue' : List ℕ} {tail tail' : ℕ} → Lent s queue tail → Cells t → Queued s t queue queue' tail tail' →
    Lent t queue' tail'
lent_later lent cells grew = record { cells = cells; size = grew.size ∙ lent.size; room = omega arith }
