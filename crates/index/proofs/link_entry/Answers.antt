-- `index::link_entry` meets its contract: the entry is the highest of its box, and what was highest comes next.
-- Assumes nothing.
use Rattle.index.specs.Index.{Held}
use Rattle.index.proofs.Linking.{linked_entry}
use Rattle.index.proofs.link_entry.Goals as goal

pub returns : goal.returns
returns c =
    let start = c in
    let held : Held start.args.packed.now c.box_of-b.result start.args.e =
    rw c.box_of-b.ensures.0 start.requires.held in
    linked_entry start.requires.e_bound c.box_of-b.ensures.1 held start.requires.linked
