-- `report::lines::put_refused` meets its contract: the refusal in words, then a line feed.
-- Assumes nothing.
use native.Mathlib.Omega.{arith}
use Rattle.text.proofs.Rooms.{room_of, room_then}
use Rattle.report.specs.Listing.{refused_line}
use Rattle.report.proofs.lines.put_refused.Goals as goal

pub returns : goal.returns
unfolding refused_line
returns c = room_then c.put_refused-next.ensures (room_of 1 c.put_byte.ensures (omega arith))
