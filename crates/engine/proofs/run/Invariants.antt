use Rattle.spec.specs.Records.{rules_in}
use Rattle.engine.proofs.Sweeps.{Sweeps}
use Rattle.engine.proofs.run.Given as goal

abbrev pub invariant-sweeps : goal.invariant-sweeps
invariant-sweeps l =
    Sweeps (rules_in l.t.maker.now l.t.depot.now) l.fn.states l.states l.queue l.start l.end

abbrev pub decreases-sweeps : goal.decreases-sweeps
decreases-sweeps l = l.left
