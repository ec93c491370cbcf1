-- `text::put_field` meets its contract: a number that fits a `usize` has at most 20 digits.
-- Assumes nothing.
use native.Mathlib.Omega.{arith}
use lib.ListN.{length-append}
use Rattle.text.specs.Spelling.{decimal}
use Rattle.text.proofs.Puts.{put_then, put_length}
use Rattle.text.proofs.Rooms.{usize_digits, room_of}
use Rattle.text.proofs.put_field.Goals as goal

pub put_decimal-requires : goal.put_decimal-requires
put_decimal-requires c =
    let start = c in
    let word = c.put_bytes-next.ensures in
    omega (arith, word.after, put_length word, usize_digits start.args.n (omega arith))

pub returns : goal.returns
returns c =
    let start = c in
    room_of _ (put_then c.put_bytes-next.ensures c.put_decimal.ensures)
    (omega (arith, length-append start.args.word.now (decimal start.args.n), usize_digits start.args.n (omega arith)))
