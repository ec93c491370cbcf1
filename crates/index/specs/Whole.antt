-- An index whole: its rules are these, and their entries are linked.
-- Assumes nothing.
use Rattle.std.specs.Prelude.{List, ◌*◌}
use Rattle.spec.specs.Records.{Rec}
use Rattle.index.specs.Index.{Packed, Linked}
use Rattle.index.specs.declared.Index.{Index}

pub record Indexed (i : Index) (qs : List Rec) : Type 0 where
  pub packs : Packed i.packed i.rules qs
  pub links : Linked i.packed (4 * i.rules) i.first i.next
