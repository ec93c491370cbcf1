-- `engine::go_on` meets its contract: the chosen box alone is in the queue.
-- Assumes nothing.
use mathlib.Core.Path.{◌∙◌}
use native.Mathlib.Omega.{arith}
use lib.ListN.{length-set}
use lib.Seq.{get_or-set_same}
use Rattle.theory.proofs.Growth.{grown_refl}
use Rattle.engine.proofs.Draining.{poised_rests, poised_lent, poised_waits}
use Rattle.engine.proofs.go_on.Goals as goal

pub returns-then-states-b-eq-OPEN-clause-rested : goal.returns-then-states-b-eq-OPEN-clause-rested
returns-then-states-b-eq-OPEN-clause-rested c =
    let r = c.requires in
    (grown_refl _ _ r.cells.sheet, poised_rests r.cells r.b_bound r.poised c.if-states-b-eq-OPEN.true)

pub drain-requires-clause-lent : goal.drain-requires-clause-lent
drain-requires-clause-lent c =
    let r = c.requires in
    let size = length-set c.args.queue.now 0 c.args.b ∙ r.queue_len in
    poised_lent r.cells r.b_bound r.poised size c.if-states-b-eq-OPEN.false

pub drain-requires-clause-all_wait : goal.drain-requires-clause-all_wait
drain-requires-clause-all_wait c =
    let r = c.requires in
    let size = length-set c.args.queue.now 0 c.args.b ∙ r.queue_len in
    poised_waits r.cells r.b_bound r.poised size (get_or-set_same c.args.queue.now 0 c.args.b 0 (omega (arith, r.queue_len)))
