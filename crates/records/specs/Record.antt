-- A record as the code holds it, as a record of the paper, and where it lies, as a part of a table.
-- Assumes nothing.
use Rattle.std.specs.Prelude.{true, false}
use Rattle.spec.specs.Records.{Rec}
use Rattle.spec.specs.Fits.{Part}
use Rattle.records.specs.declared.Record.{Record}
use Rattle.records.specs.declared.Where.{Where}
use Rattle.records.specs.declared.Where.TheVariants.{Maker, Depot}

abbrev pub as_rec : Record → Rec
as_rec q = record { kind = q.kind; byte1 = q.byte1; x = q.x; y = q.y; z = q.z }

-- a record is eight bytes
abbrev pub part_of : Where → Part
part_of (Maker start) = record { depots = false; start = start; size = 8 }
part_of (Depot start) = record { depots = true; start = start; size = 8 }
