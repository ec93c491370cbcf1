-- `index::Index::fill` meets its contract: the rules of the tables, and their chains from none.
-- Assumes nothing.
use Rattle.index.proofs.Linking.{linked_zeros}
use Rattle.index.proofs.Index.fill.Goals as goal

pub link-requires-clause-linked : goal.link-requires-clause-linked
link-requires-clause-linked c = rw (c.requires.first, c.requires.next) (linked_zeros _)
