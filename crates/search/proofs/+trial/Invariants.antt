-- A trial's branches have fewer open boxes; and what is known before each choice of its loop.
-- Assumes nothing.
use mathlib.Core.Path.{◌≡◌}
use Prim.Native.Nat.{ℕ, ◌<◌}
use lib.ListN.{set, length}
use Rattle.std.specs.Prelude.{None}
use Rattle.engine.specs.Queue.{rules_of}
use Rattle.search.specs.Look.{Asks, Finds}
use Rattle.spec.specs.Fill.{open_count}
use Rattle.search.proofs.+trial.Given as goal

abbrev pub decreases-trial : goal.decreases-trial
decreases-trial l = open_count (set l.sheet.states l.from l.state)

-- the queue keeps its size, and the choices before this one have no kit
abbrev pub invariant-loop-choice : goal.invariant-loop-choice
invariant-loop-choice l =
    (length l.queue ≡ 256) × ((v : ℕ) → v < l.choice → Finds (Asks (rules_of l.index) l.n (set l.own l.b v) l.bound) l.n None)
