-- `accept::first_above` meets its contract: `position` finds the lowest.
-- Assumes nothing.
use Rattle.std.proofs.Common.{rules, tests, ltb}
use Rattle.std.proofs.lemmas.Iterator.{YieldsList-from_slice}
use Rattle.std.proofs.lemmas.Iterator.Search.{position_from_yields_List}
use Rattle.lemmas.proofs.Lowest.{if_none}
use Rattle.accept.proofs.Search.{position_lowest}
use Rattle.accept.proofs.first_above.Goals as goal

pub returns-then-not-is_any_above : goal.returns-then-not-is_any_above
returns-then-not-is_any_above c = if_none _ _ (c.is_any_above.ensures c.if-not-is_any_above.true)

pub returns : goal.returns
returns c =
    let s = c.args.s.now in
    let found = position_from_yields_List (ltb c.args.top) _ _ _ c.position.ensures.ran (YieldsList-from_slice s cc) (λ x b q k. search (rules, tests)) in
    rw (← position_lowest (ltb c.args.top) s) found
