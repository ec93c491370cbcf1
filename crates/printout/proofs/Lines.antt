-- What a line put after others makes of them.
-- Assumes nothing.
use mathlib.Core.Path.{◌≡◌, ◌∙◌}
use mathlib.Core.List.{List, [], ◌∷◌}
use Prim.Native.Nat.{ℕ, ◌+◌, ◌*◌, ◌≤◌, ◌<◌}
use native.Mathlib.Omega.{arith}
use native.Mathlib.Numerals.{add-one}
use lib.ListN.{length, take, length-append}
use Rattle.text.specs.Spelling.{decimal}
use Rattle.text.specs.Putting.{Put}
use Rattle.text.proofs.Puts.{put_length, put_front}
use Rattle.text.proofs.Decimals.{decimal_length}
use Rattle.spec.specs.OneRule.{outcome}
use Rattle.onerule.proofs.Outcomes.{entry_below}
use Rattle.printout.specs.Printed.{line_of, printed}

pub line_length : (n : ℕ) → length (line_of n) ≡ length (decimal n) + 1
unfolding line_of
line_length n = length-append (decimal n) (10 ∷ [])

-- an entry is below 100
pub entry_short : {n k : ℕ} → n ≡ outcome k → k < 256 → length (line_of n) ≤ 3
entry_short {n} {k} e h = omega (arith, line_length n, decimal_length 1 n (omega (arith, entry_below k h)))

-- the lines of the entries below k stand at the front of the bytes, which have room for all lines
pub record Front (bytes : List ℕ) (at k : ℕ) : Type 0 where
  pub room : 768 ≤ length bytes
  pub below : at ≤ 3 * k
  pub lines : take at bytes ≡ printed k

-- the line of entry k is put just after the lines of the entries below k
pub line_added : {old new : List ℕ} {at next n k : ℕ} →
    k < 256 → Front old at k → Put old at (line_of n) new next → n ≡ outcome k → Front new next (k + 1)
unfolding printed
line_added {n} {k} h front put e =
    let short : length (line_of n) ≤ 3 = entry_short e h in
    let same = put_length put in
    record {
      room = omega arith;
      below = omega (arith, put.after);
      lines = rw add-one (put_front (omega arith) put ∙ rw (front.lines, e));
    }
