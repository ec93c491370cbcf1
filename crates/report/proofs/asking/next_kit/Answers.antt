-- `report::asking::next_kit` meets its contract, by Next's: the list given is a copy of the one at hand.
-- Assumes nothing.
use Rattle.report.proofs.Heads.{next_at}
use Rattle.report.proofs.asking.next_kit.Goals as goal

pub returns : goal.returns
returns c =
    let does = rw c.store.ensures at c.next.ensures in
    rw c.is_list.ensures (next_at _ _ _ _ c.requires.listable _ _ _ c.requires.full does)
