-- `engine::queue::drain` meets its contract: the boxes of the queue are taken until every rule is at rest.
-- Assumes nothing.
use mathlib.Core.Path.{subst}
use Prim.Native.Nat.{ℕ}
use native.Mathlib.Omega.{arith}
use Rattle.std.proofs.lemmas.Result.{err_from_is_err_and}
use Rattle.theory.proofs.Growth.{grown_refl, grown_trans}
use Rattle.engine.specs.Queue.{rules_of, VisitedTo}
use Rattle.engine.proofs.Running.{lent_ran, clashed_since}
use Rattle.engine.proofs.Draining.{drain_step}
use Rattle.engine.proofs.queue.drain.Goals as goal

pub loop-head-init : goal.loop-head-init
loop-head-init c =
    let lent = c.requires.lent in
    (c.requires.from_le_to, lent, grown_refl _ _ lent.cells.sheet, c.requires.all_wait)

pub returns-in_err-tail-clause-rested : goal.returns-in_err-tail-clause-rested
returns-in_err-tail-clause-rested c =
    rw (err_from_is_err_and c.from_residual.result c.from_residual.ensures.1).1
    (clashed_since c.loop-head.invariant.2 c.in_err-tail.ensures).clash

pub loop-head-preserved : goal.loop-head-preserved
loop-head-preserved c =
    let l = c.loop-head in
    -- the visit was of the box that was taken
    let gone =
    subst
    (λ (b : ℕ). VisitedTo (rules_of c.args.index.now) b l.states c.visit.new.states l.queue c.visit.new.queue l.tail c.in_ok-tail.tail)
    c.box_of.ensures.0 c.in_ok-tail.ensures in (
      omega (arith, gone.ran.queued.later),
      lent_ran l.invariant.1 gone.ran,
      grown_trans l.invariant.2 gone.ran.grown,
      drain_step l.invariant.3 (omega arith) gone,
    )
