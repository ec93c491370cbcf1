-- What it is to put bytes into a buffer.
-- Assumes nothing.
use Rattle.std.specs.Prelude.{◌≡◌, List, ℕ, ◌+◌, ◌≤◌, length}
use Rattle.std.proofs.lemmas.List.Edits.{sets}

-- the bytes are put at `at`, and `next` is the place after them
pub record Put (old : List ℕ) (at : ℕ) (bytes new : List ℕ) (next : ℕ) : Type 0 where
  pub stored : new ≡ sets old at bytes
  pub after : next ≡ at + length bytes

-- they are put, and they are no more than `most`
pub record PutWithin (most : ℕ) (old : List ℕ) (at : ℕ) (bytes new : List ℕ) (next : ℕ) : Type 0 where
  pub puts : Put old at bytes new next
  pub short : next ≤ at + most
