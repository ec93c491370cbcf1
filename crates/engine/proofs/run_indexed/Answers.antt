-- `engine::run_indexed` meets its contract: one sweep, and then the queue.
-- Assumes nothing.
use mathlib.Core.Path.{refl, subst⁻¹}
use mathlib.Core.List.{List}
use Prim.Native.Nat.{ℕ}
use native.Mathlib.Omega.{arith}
use Rattle.std.specs.Prelude.{Result, Ok, Err}
use Rattle.std.proofs.lemmas.Result.{err_from_is_err_and}
use Rattle.spec.specs.Records.{Rec}
use Rattle.index.specs.Whole.{Indexed}
use Rattle.index.specs.declared.Index.{Index}
use Rattle.engine.specs.Queue.{rules_of, Swept}
use Rattle.engine.specs.declared.step.Clash.{Clash}
use Rattle.engine.proofs.Running.{grown_rested, lent_ran}
use Rattle.engine.proofs.Draining.{indexed_own, zeros, lent_empty}
use Rattle.engine.proofs.run_indexed.Goals as goal

-- a sweep of the tables' rules is one of the index's, which are the same
swept : {i : Index} {qs : List Rec} (s t queue : List ℕ) (answer : Result ℕ Clash) → Indexed i qs → Swept qs s t zeros queue 0 answer →
    Swept (rules_of i) s t zeros queue 0 answer
swept s t queue answer indexed gone = subst⁻¹ (λ (qs : List Rec). Swept qs s t zeros queue 0 answer) indexed.packs.rules gone

pub sweep-requires : goal.sweep-requires
sweep-requires c = record { lent = lent_empty c.requires.cells refl }

pub drain-requires : goal.drain-requires
drain-requires c =
    let gone = swept _ _ _ (Ok c.in_ok-end.end) c.requires.indexed c.in_ok-end.ensures in
    record {
      indexed = indexed_own c.requires.indexed;
      lent = lent_ran (lent_empty {queue = zeros} c.requires.cells refl) gone.ran;
      from_le_to = omega arith;
      all_wait = gone.waits;
    }

pub returns-in_err-end : goal.returns-in_err-end
returns-in_err-end c =
    rw (err_from_is_err_and c.from_residual.result c.from_residual.ensures.1).1
    (swept _ c.sweep.new.states c.sweep.new.queue (Err c.in_err-end.field-0.0) c.requires.indexed c.in_err-end.ensures)

pub returns : goal.returns
returns c =
    let gone = swept _ _ _ (Ok c.in_ok-end.end) c.requires.indexed c.in_ok-end.ensures in
    grown_rested gone.ran.grown _ c.drain.result c.drain.ensures.rested
