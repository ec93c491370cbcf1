-- An answer put in two steps, what an operation says and then a buffer that it was lent; and the answer to the parts of a call as
-- the answer to its fields.
-- Assumes nothing.
use mathlib.Core.Path.{◌≡◌, ap, fun_ext}
use mathlib.Core.List.{List, ◌++◌}
use Prim.Native.Nat.{ℕ, ◌+◌, ◌*◌, ◌≤◌}
use native.Mathlib.Omega.{arith}
use lib.ListN.{length, drop}
use Rattle.text.specs.Putting.{PutWithin}
use Rattle.text.proofs.Puts.{put_then}
use Rattle.text.proofs.Rooms.{room_within}
use Rattle.fields.specs.Fields.{fields_of, part}
use Rattle.fields.specs.Ends.{PartsTaken}
use Rattle.calls.specs.Words.{spaced}
use Rattle.calls.specs.Room.{Answered}

pub put_lent : {left old mid new said : List ℕ} {at next last most : ℕ} (words lent : List ℕ) → PutWithin 80 old at said mid next →
    PutWithin (2 + 2 * length left) mid next (spaced left) new last → said ≡ words → left ≡ lent → length left ≤ most →
    PutWithin (100 + 2 * most) old at (words ++ spaced lent) new last
put_lent words lent p q same e few =
    record { puts = rw (← same, ← e) (put_then p.puts q.puts); short = omega (arith, p.short, q.short) }

-- the parts in the buffer are those that the fields give
pub put_fields : {line : List ℕ} {from : ℕ} {bytes ends old new : List ℕ} {at next : ℕ} (answer : (ℕ → List ℕ) → List ℕ) → PartsTaken line from bytes ends →
    Answered bytes ends answer old at new next → PutWithin (100 + length line) old at (answer (part (fields_of (drop from line)))) new next
put_fields answer t p =
    rw (← (ap answer (fun_ext t.parts))) (room_within _ (omega (arith, t.half)) p)
