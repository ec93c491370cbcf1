-- `why::next::next_line` meets its contract: record by record, the lowest box that one gives a state.
-- Assumes nothing.
use native.Mathlib.Omega.{arith}
use Rattle.spec.proofs.Accepted.{accepted_all}
use Rattle.why.proofs.Offers.{so_lower, so_kept}
use Rattle.why.proofs.next.next_line.Goals.{then-b-below, else-b-below}
use Rattle.why.proofs.next.next_line.Goals as goal

pub lowest_given-b-requires-clause-q_value : goal.lowest_given-b-requires-clause-q_value
lowest_given-b-requires-clause-q_value c = rw c.record.ensures ((accepted_all c.args.t.accepted).good _ (omega arith))

pub loop-number-preserved : goal.loop-number-preserved
loop-number-preserved c =
    let t = c.args.t in
    let s = c.args.states.now in
    let so = c.loop-number in
    let found = rw c.record.ensures at c.lowest_given-b.ensures in
    elim c.if-b-below.branch [
      | then-b-below w ↦
          rw (w.next-is, w.below-is) (so_lower t.maker.now t.depot.now s t.n _ _ so.next so.invariant _ found w.if-b-below.true)
      | else-b-below w ↦
          rw (w.next-is, w.below-is) (so_kept t.maker.now t.depot.now s t.n _ _ so.next so.invariant _ found w.if-b-below.false)
    ]
