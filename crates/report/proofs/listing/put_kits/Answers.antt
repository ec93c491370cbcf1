-- `report::listing::put_kits` meets its contract.
-- Assumes nothing.
use mathlib.Core.Path.{refl}
use native.Mathlib.Omega.{arith}
use Rattle.report.proofs.Filling.{passed_boxes}
use Rattle.report.proofs.Showing.{showing_full, showing_digits, showing_next, showing_more, showing_end}
use Rattle.report.proofs.listing.put_kits.Goals as goal

pub returns-then-not-found : goal.returns-then-not-found
returns-then-not-found c = showing_end c.loop-k.invariant c.if-not-found.true refl (omega arith) c.put_end.ensures

pub put_list-at-requires-clause-list_in_bounds : goal.put_list-at-requires-clause-list_in_bounds
put_list-at-requires-clause-list_in_bounds c = omega (arith, passed_boxes _ _ _ c.requires.listable.passes)

pub put_list-at-requires-clause-by_index : goal.put_list-at-requires-clause-by_index
put_list-at-requires-clause-by_index c = showing_digits _ _ _ c.loop-k.invariant c.if-not-found.false

pub next_kit-found-requires-clause-full : goal.next_kit-found-requires-clause-full
next_kit-found-requires-clause-full c = showing_full _ _ _ c.loop-k.invariant c.if-not-found.false

pub loop-k-preserved : goal.loop-k-preserved
loop-k-preserved c =
    let few = passed_boxes _ _ _ c.requires.listable.passes in
    showing_next _ _ _ c.loop-k.invariant c.if-not-found.false few c.put_list-at.ensures c.next_kit-found.ensures

pub returns-then-not-found-2 : goal.returns-then-not-found-2
returns-then-not-found-2 c =
    showing_end c.loop-k.invariant c.if-not-found-2.true (omega arith) (omega arith) c.put_end-then-not-found-2.ensures

pub returns : goal.returns
returns c = showing_more _ _ _ c.loop-k.invariant c.if-not-found-2.false (omega arith) c.put_more.ensures
