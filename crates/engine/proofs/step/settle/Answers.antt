-- `engine::step::settle` meets its contract: a box that has the state is left alone, and an open one is stored and noted.
-- Assumes nothing.
use Rattle.engine.proofs.Settled.{settle_room, settle_new}
use Rattle.engine.proofs.step.settle.Goals as goal

pub bounds-queue-tail : goal.bounds-queue-tail
bounds-queue-tail c = settle_room c.requires c.if-states-b.false

pub returns : goal.returns
returns c = settle_new c.requires c.if-states-b.false
