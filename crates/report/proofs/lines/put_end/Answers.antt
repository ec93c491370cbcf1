-- `report::lines::put_end` meets its contract: the field, then a line feed.
-- Assumes nothing.
use native.Mathlib.Omega.{arith}
use Rattle.report.specs.Listing.{end_line}
use Rattle.text.proofs.Rooms.{room_of, room_then}
use Rattle.report.proofs.lines.put_end.Goals as goal

pub returns : goal.returns
unfolding end_line
returns c = room_then c.put_field-a.ensures (room_of 1 c.put_byte.ensures (omega arith))
