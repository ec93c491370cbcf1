-- What a program does that makes such turns, on an input that comes in pieces of any size.
-- Assumes nothing.
use Rattle.std.specs.Prelude.{◌≡◌, Bool, true, false, List, [], ◌∷◌, ◌++◌, ℕ, take}
use Rattle.text.specs.Spelling.{spelt}
use Rattle.stream.specs.Input.{output_in, Turned}
use Rattle.stream.specs.declared.Left.{Left}

-- the input that is still to come
abbrev pub joined : List (List ℕ) → List ℕ
joined pieces = spelt (λ piece. piece) pieces

-- some input is at hand and some is to come; in the turns that are left, this is written
pub data Writes : (skipping : Bool) (hand : List ℕ) (coming : List (List ℕ)) (written : List ℕ) → Type 0 where
  -- a turn while more may come
  turns : {skipping : Bool} {old new text written : List ℕ} {size : ℕ} {coming : List (List ℕ)} (r : Left) →
      Turned old size skipping false new text r → Writes r.skipping (take r.size new) coming written →
      Writes skipping (take size old) coming (take r.at text ++ written)
  -- the next piece is read
  reads : {skipping : Bool} {hand piece written : List ℕ} {coming : List (List ℕ)} →
      Writes skipping (hand ++ piece) coming written → Writes skipping hand (piece ∷ coming) written
  -- a turn after the end of the input
  finishes : {skipping : Bool} {old new text written : List ℕ} {size : ℕ} (r : Left) →
      Turned old size skipping true new text r → Writes r.skipping (take r.size new) [] written →
      Writes skipping (take size old) [] (take r.at text ++ written)
  -- that turn waits, so it was the last
  stops : {skipping : Bool} {hand : List ℕ} → output_in skipping hand ≡ [] → Writes skipping hand [] []
