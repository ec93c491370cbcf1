-- Our list as the code makes it: line by line at the head of a buffer.
-- Assumes nothing.
use Rattle.std.specs.Prelude.{◌≡◌, List, ℕ, length}
use Rattle.std.proofs.lemmas.List.Edits.{sets}
use Rattle.whylists.specs.Ours.{ours, lines_bytes}

-- the whole list is in the buffer, and k lines are
pub record Made (maker depot sheet out out' : List ℕ) (k : ℕ) : Type 0 where
  pub stored : out' ≡ sets out 0 (lines_bytes (ours maker depot sheet))
  pub lines : k ≡ length (ours maker depot sheet)
