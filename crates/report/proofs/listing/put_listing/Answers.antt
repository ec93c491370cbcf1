-- `report::listing::put_listing` meets its contract: what is put is the listing by what Fill says.
-- Assumes nothing.
use native.Mathlib.Omega.{arith}
use Rattle.text.proofs.Rooms.{room_then, room_within}
use Rattle.report.specs.Listing.{page}
use Rattle.report.proofs.Filling.{filled_boxes, filled_passed, listing_filled, listing_refused}
use Rattle.report.proofs.listing.put_listing.Goals as goal

pub returns-in-Err : goal.returns-in-Err
returns-in-Err c =
    rw (listing_refused _ _ _ _ c.requires.room_for_sheet _ _ c.in-Err.ensures _ c.into.ensures)
    (room_within page (omega arith) c.put_refused.ensures)

pub count_open-left-requires : goal.count_open-left-requires
count_open-left-requires c = let few = filled_boxes _ _ _ _ c.requires.room_for_sheet _ _ c.in-Ok.ensures in omega (arith, c.requires.room_for_sheet.size few)

pub put_kits-requires-clause-listable : goal.put_kits-requires-clause-listable
put_kits-requires-clause-listable c =
    record {
      passes = filled_passed _ _ _ _ c.requires.room_for_sheet _ _ c.in-Ok.ensures;
      size = c.requires.room_for_sheet_3.size (filled_boxes _ _ _ _ c.requires.room_for_sheet _ _ c.in-Ok.ensures);
    }

pub put_kits-requires-clause-given_len : goal.put_kits-requires-clause-given_len
put_kits-requires-clause-given_len c =
    c.requires.room_for_sheet_2.size (filled_boxes _ _ _ _ c.requires.room_for_sheet _ _ c.in-Ok.ensures)

pub returns : goal.returns
returns c =
    rw (
      listing_filled _ _ _ _ c.requires.room_for_sheet _ _ c.in-Ok.ensures,
      ← c.count_open-left.ensures,
      ← c.count-rules.ensures,
    )
    (room_within page (omega arith) (room_then c.put_header-at.ensures c.put_kits.ensures))
