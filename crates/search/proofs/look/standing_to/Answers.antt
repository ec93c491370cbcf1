-- `search::look::standing_to` meets its contract: the lowest box where the two differ decides.
-- Assumes nothing.
use Rattle.search.proofs.Standing.{compared_from}
use Rattle.search.proofs.look.standing_to.Goals as goal

pub returns-in-Some : goal.returns-in-Some
returns-in-Some c =
    let is = c.in-Some.is in
    rw (is, c.cmp.ensures)
    (compared_from c.args.from c.args.b c.requires.from_le_b c.args.states.now c.in-Some.list.now
    (rw is at c.requires.same_below) c.requires.b_in_bounds (rw is at c.requires.b_in_bounds_2))
