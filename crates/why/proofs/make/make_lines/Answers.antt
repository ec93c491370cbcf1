-- `why::make::make_lines` meets its contract: line by line, as long as one follows.
-- Assumes nothing.
use native.Mathlib.Omega.{arith}
use Rattle.spec.proofs.Accepted.{accepted_all}
use Rattle.why.proofs.Made.{making_start, making_full, making_none, making_next}
use Rattle.why.proofs.make.make_lines.Goals as goal

pub loop-k-init : goal.loop-k-init
loop-k-init c =
    let accepted = c.args.order.accepted in
    making_start _ _ _ c.args.out.now _ c.load.ensures accepted.sheet_bytes accepted.sheet_length

pub returns-in_default : goal.returns-in_default
returns-in_default c = making_none _ _ _ _ _ c.loop-k.invariant c.loop-k-test.true c.in_default.ensures

pub given-state-requires-clause-q_value : goal.given-state-requires-clause-q_value
given-state-requires-clause-q_value c = rw c.record.ensures ((accepted_all c.args.order.tables.accepted).good _ c.in-Some.ensures.counted)

pub loop-k-preserved : goal.loop-k-preserved
loop-k-preserved c =
    making_next _ _ _ _ _ c.loop-k.invariant c.loop-k-test.true c.in-Some.ensures c.given-state.result
    (rw c.record.ensures at c.given-state.ensures.value) c.given-state.ensures.upper_bound
    (omega (arith, c.in-Some.ensures.within, c.args.order.tables.accepted.boxes)) (rw c.line_bytes-line.ensures at c.put_bytes.ensures)

pub returns : goal.returns
returns c = making_full _ _ _ _ _ c.loop-k.invariant (omega arith)
