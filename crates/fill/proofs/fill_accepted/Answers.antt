-- `fill::fill_accepted` meets its contract: the engine comes to rest at the closure, or finds a clash.
-- Assumes nothing.
use Rattle.fill.proofs.Says.{clashed, rested}
use Rattle.fill.proofs.fill_accepted.Goals as goal

pub returns-in_default : goal.returns-in_default
returns-in_default c = clashed _ _ _ c.args.order.accepted c.load.ensures _ c.in_default.ensures

pub hand_out-requires-clause-fills_to : goal.hand_out-requires-clause-fills_to
hand_out-requires-clause-fills_to c = rested _ _ _ c.args.order.accepted c.load.ensures c.in-Ok.ensures
