-- `why::why_accepted` meets its contract: a clash is told before anything is written, and else our list is.
-- Assumes nothing.
use Rattle.why.proofs.Judging.{clashed, explained}
use Rattle.why.proofs.why_accepted.Goals as goal

pub returns-in_default : goal.returns-in_default
returns-in_default c = clashed _ _ _ c.args.out.now c.args.order.accepted c.load.ensures c.in_default.ensures

pub returns : goal.returns
returns c = explained _ _ _ _ c.args.order.accepted c.load.ensures c.requires c.in-Ok.ensures c.make_lines.ensures
