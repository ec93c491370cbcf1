-- `engine::sweep::sweep` meets its contract: every record has its step, on the states and the queue that the ones before have left.
-- Assumes nothing.
use mathlib.Core.Path.{subst}
use mathlib.Core.List.{List}
use Prim.Native.Nat.{ℕ, ◌<◌}
use native.Mathlib.Omega.{arith}
use Rattle.std.specs.Prelude.{Result, Ok, Err}
use Rattle.std.proofs.lemmas.Result.{err_from_is_err_and}
use Rattle.spec.specs.Records.{Rec, is_rule, record_count}
use Rattle.spec.proofs.Accepted.{accepted_all}
use Rattle.engine.specs.Queue.{RecordStepped}
use Rattle.engine.specs.declared.step.Clash.{Clash}
use Rattle.engine.proofs.Running.{lent_ran}
use Rattle.engine.proofs.Sweeping.{sweep_start, sweep_step, sweep_clash, sweep_end}
use Rattle.engine.proofs.sweep.sweep.Goals as goal

-- the step that was taken, of the record that was read
abbrev StepOf : (s t queue queue' : List ℕ) (tail : ℕ) (answer : Result ℕ Clash) → Rec → Type 0
StepOf s t queue queue' tail answer q = RecordStepped (is_rule q) q s t queue queue' tail answer

pub loop-i-init : goal.loop-i-init
loop-i-init c = (c.requires.lent, sweep_start _ _ c.args.back c.requires.lent.cells.sheet)

pub step_record-requires : goal.step_record-requires
step_record-requires c =
    let below : c.turn.result < record_count c.args.t.maker.now c.args.t.depot.now = omega (arith, c.turn.ensures.within) in
    let good = (accepted_all c.args.t.accepted).good c.turn.result below in
    record { good = rw c.record.ensures good; lent = c.loop-i.invariant.0 }

pub returns-in_err-tail : goal.returns-in_err-tail
returns-in_err-tail c =
    let l = c.loop-i in
    rw (err_from_is_err_and c.from_residual.result c.from_residual.ensures.1).1
    (sweep_clash _ _ l.invariant.1 c.turn.result (omega (arith, c.turn.ensures.within)) _ _ _
    (subst (StepOf l.states c.step_record.new.states l.queue c.step_record.new.queue l.tail (Err c.in_err-tail.field-0.0))
    c.record.ensures c.in_err-tail.ensures))

pub loop-i-preserved : goal.loop-i-preserved
loop-i-preserved c =
    let l = c.loop-i in
    let so_far =
    sweep_step _ _ l.invariant.1 c.turn.result (omega (arith, c.turn.ensures.within)) (omega arith) c.turn.ensures.next _ _
    c.in_ok-tail.tail
    (subst (StepOf l.states c.step_record.new.states l.queue c.step_record.new.queue l.tail (Ok c.in_ok-tail.tail))
    c.record.ensures c.in_ok-tail.ensures) in
    (lent_ran c.requires.lent so_far.ran, so_far)

pub returns : goal.returns
returns c = sweep_end _ _ c.loop-i.invariant.1 (omega arith)
