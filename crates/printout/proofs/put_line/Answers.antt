-- `printout::put_line` meets its contract: the number's digits, then a line feed.
-- Assumes nothing.
use native.Mathlib.Omega.{arith}
use Rattle.text.proofs.Puts.{put_then, put_length}
use Rattle.printout.specs.Printed.{line_of}
use Rattle.printout.proofs.Lines.{line_length}
use Rattle.printout.proofs.put_line.Goals as goal

pub put_decimal-next-requires : goal.put_decimal-next-requires
put_decimal-next-requires c = omega (arith, line_length c.args.n)

pub put_byte-requires : goal.put_byte-requires
put_byte-requires c =
    let digits = c.put_decimal-next.ensures in
    omega (arith, digits.after, put_length digits, line_length c.args.n)

pub returns : goal.returns
unfolding line_of
returns c = put_then c.put_decimal-next.ensures c.put_byte.ensures
