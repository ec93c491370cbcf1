-- `report::lines::put_list` meets its contract: the digits, then a line feed.
-- Assumes nothing.
use native.Mathlib.Omega.{arith}
use Rattle.text.proofs.Puts.{put_then}
use Rattle.report.specs.Listing.{list_line}
use Rattle.report.proofs.Digits.{digits_length}
use Rattle.report.proofs.lines.put_list.Goals as goal

pub put_byte-requires : goal.put_byte-requires
put_byte-requires c = omega (arith, digits_length c.args.list.now)

pub returns : goal.returns
unfolding list_line
returns c = put_then c.put_digits-a.ensures c.put_byte.ensures
