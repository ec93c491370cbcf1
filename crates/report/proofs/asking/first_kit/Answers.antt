-- `report::asking::first_kit` meets its contract, by First's.
-- Assumes nothing.
use Rattle.report.proofs.Heads.{first_at}
use Rattle.report.proofs.asking.first_kit.Goals as goal

pub returns : goal.returns
returns c = rw c.is_list.ensures (first_at _ _ _ _ c.requires _ _ c.first.ensures)
