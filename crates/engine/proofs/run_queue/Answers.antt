-- `engine::run_queue` meets its contract: the index is made of the tables, and the queue's boxes are taken.
-- Assumes nothing.
use mathlib.Core.Path.{subst⁻¹}
use mathlib.Core.List.{List}
use Rattle.spec.specs.Records.{Rec}
use Rattle.engine.specs.Queue.{AllWait}
use Rattle.engine.proofs.run_queue.Goals as goal

pub drain-requires-clause-all_wait : goal.drain-requires-clause-all_wait
drain-requires-clause-all_wait c =
    subst⁻¹ (λ (qs : List Rec). AllWait qs c.args.states.now c.args.queue.now c.args.from c.args.to) c.fill.ensures.packs.rules
    c.requires.all_wait
