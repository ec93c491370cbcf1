-- `text::put_hex_pair` meets its contract: two stores, of the byte's two digits.
-- Assumes nothing.
use native.Mathlib.Omega.{arith}
use native.Mathlib.Numerals.{add-one}
use lib.ListN.{length-set}
use Rattle.text.proofs.put_hex_pair.Goals as goal

pub bounds-out-at-2 : goal.bounds-out-at-2
bounds-out-at-2 c = simp length-set (omega arith)

pub returns : goal.returns
returns c = record { stored = rw (c.hex_digit.ensures, c.hex_digit-2.ensures, add-one); after = omega arith }
