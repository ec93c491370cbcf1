-- What is written for an input: the replies to its lines, in their order.
-- Assumes nothing.
use Rattle.std.specs.Prelude.{◌≡◌, Bool, true, false, List, [], ◌++◌, ℕ, ◌+◌, ◌≤◌, ◌<◌, length, take, drop, Option, Some, None}
use Rattle.text.specs.Spelling.{spelt}
use Rattle.fields.specs.Cuts.{longest, cut_at, until}
use Rattle.calls.specs.Lines.{reply_to}
use Rattle.stream.specs.declared.Reached.{Reached}
use Rattle.stream.specs.declared.Left.{Left}

abbrev pub replies_to : List (List ℕ) → List ℕ
replies_to ls = spelt reply_to ls

-- the lines end at line feeds (10). The last may lack its own; where it does not, nothing stands after it, and nothing is
-- written for nothing
unfoldable pub output_for : List ℕ → List ℕ
output_for input = replies_to (cut_at 10 input)

-- what is written for an input; where the reply to its first line is already written, only what comes after it
unfoldable pub output_in : (skipping : Bool) → List ℕ → List ℕ
output_in false input = output_for input
output_in true input = replies_to (drop 1 (cut_at 10 input))

-- room for the longest reply
pub record RoomForLines (text : List ℕ) : Type 0 where
  pub reply : longest + 102 ≤ length text

-- what is done with the part of an input that is at hand: whatever input is still to come, what is put and what is written for the
-- rest is all that is written
pub record Advanced (input : List ℕ) (skipping : Bool) (text : List ℕ) (r : Reached) : Type 0 where
  pub within : r.from ≤ length input
  pub room : r.at ≤ length text
  pub writes : (more : List ℕ) → output_in skipping (input ++ more) ≡ take r.at text ++ output_in r.skipping (drop r.from input ++ more)
  pub moves : 0 < r.from

-- no full line is at hand, nor one that is too long
pub record Pending (input : List ℕ) : Type 0 where
  pub short : length input ≤ longest
  pub begun : until 10 input ≡ length input

-- some of the input is passed over; or nothing is done, and more of it is needed
abbrev pub GoesOn : (input : List ℕ) (skipping : Bool) (text : List ℕ) → Option Reached → Type 0
GoesOn input skipping text (Some r) = Advanced input skipping text r
GoesOn input skipping text None = Pending input

-- the promise of a turn. At hand are the first `size` bytes of the old buffer, and then those of the new one. Whatever is still to
-- come, and nothing where the input has ended, what is put and what is written for the rest is all that is written. A turn gives
-- something up, or waits; then no full line is at hand, there is room for more, and where the input has ended, nothing is left
-- to be written
pub record Turned (old : List ℕ) (size : ℕ) (skipping ended : Bool) (new text : List ℕ) (r : Left) : Type 0 where
  pub within : r.size ≤ length new
  pub room : r.at ≤ length text
  pub writes : (more : List ℕ) → (ended ≡ true → more ≡ []) →
      output_in skipping (take size old ++ more) ≡ take r.at text ++ output_in r.skipping (take r.size new ++ more)
  pub goes : r.waits ≡ false → r.size < size
  pub begun : r.waits ≡ true → until 10 (take r.size new) ≡ length (take r.size new)
  pub space : r.waits ≡ true → r.size ≤ longest
  pub done : r.waits ≡ true → ended ≡ true → output_in r.skipping (take r.size new) ≡ []
