-- `refusals::put_refused` meets its contract: the number and then the place.
-- Assumes nothing.
use native.Mathlib.Omega.{arith}
use Rattle.text.specs.Spelling.{field}
use Rattle.refusals.specs.Telling.{refusal_room}
use Rattle.text.proofs.Rooms.{room_then, room_within}
use Rattle.refusals.proofs.put_refused.Goals as goal

pub returns : goal.returns
returns c = room_within refusal_room (omega arith) (room_then {b = field " " c.args.said.second} c.put_field-next.ensures c.put_field.ensures)
