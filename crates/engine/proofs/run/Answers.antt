-- `engine::run` meets its contract: sweeps forth and back, and then the queue, as far as each is needed.
-- Assumes nothing.
use mathlib.Core.Path.{refl}
use Rattle.std.proofs.lemmas.Result.{err_from_is_err_and}
use Rattle.theory.proofs.Growth.{grown_clash}
use Rattle.engine.proofs.Running.{grown_rested}
use Rattle.engine.proofs.Draining.{zeros, lent_empty}
use Rattle.engine.proofs.Sweeps.{sweeps_first, sweeps_next}
use Rattle.engine.proofs.run.Goals as goal

pub sweep-requires : goal.sweep-requires
sweep-requires c = record { lent = lent_empty c.requires.cells refl }

pub sweeps-init : goal.sweeps-init
sweeps-init c = sweeps_first (lent_empty {queue = zeros} c.requires.cells refl) c.in_ok-end.ensures

pub returns-then-left-eq0 : goal.returns-then-left-eq0
returns-then-left-eq0 c =
    grown_rested c.sweeps.invariant.grown c.run_queue.new.states c.run_queue.result c.run_queue.ensures

pub returns-in_err-noted : goal.returns-in_err-noted
returns-in_err-noted c =
    let clash = c.in_err-noted.ensures in
    rw (err_from_is_err_and c.from_residual-in_err-noted.result c.from_residual-in_err-noted.ensures.1).1
    (clash.0, grown_clash c.sweeps.invariant.grown clash.1)

pub sweeps-preserved : goal.sweeps-preserved
sweeps-preserved c = sweeps_next c.sweeps.invariant c.in_ok-noted.ensures
