-- `report::lines::put_header` meets its contract: the fields, then a line feed.
-- Assumes nothing.
use native.Mathlib.Omega.{arith}
use Rattle.report.specs.Listing.{header_line}
use Rattle.text.proofs.Rooms.{room_of, room_then}
use Rattle.report.proofs.lines.put_header.Goals as goal

pub returns : goal.returns
unfolding header_line
returns c =
    let three = room_then (room_then c.put_field-a.ensures c.put_field-b.ensures) c.put_field-c.ensures in
    room_then (room_then three c.put_field-d.ensures) (room_of 1 c.put_byte.ensures (omega arith))
