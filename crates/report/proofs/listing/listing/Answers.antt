-- `report::listing::listing` meets its contract: what is put at the start is the whole listing.
-- Assumes nothing.
use Rattle.text.proofs.Rooms.{room_front}
use Rattle.report.proofs.listing.listing.Goals as goal

pub returns-clause-written : goal.returns-clause-written
returns-clause-written c = (room_front c.requires c.put_listing.ensures).2
