-- `engine::queue::visit` meets its contract: the rules along a box's chain have their step.
-- Assumes nothing.
use native.Mathlib.Omega.{arith}
use Rattle.std.proofs.lemmas.Result.{err_from_is_err_and}
use Rattle.index.proofs.Linking.{held_member}
use Rattle.engine.proofs.Running.{lent_ran}
use Rattle.engine.proofs.Visiting.{top_below, visit_start, entry_held, rule_below, visit_clash, visit_step, visit_end}
use Rattle.engine.proofs.queue.visit.Goals as goal

pub loop-e-init : goal.loop-e-init
loop-e-init c =
    let heads = c.requires.indexed.links.heads c.args.b c.requires.b_bound in
    (c.requires.lent, visit_start _ _ _ c.requires.lent.cells.sheet heads)

pub step_rule-requires-clause-step_input : goal.step_rule-requires-clause-step_input
step_rule-requires-clause-step_input c =
    let member = held_member _ (rule_below _ _ _ c.loop-e.invariant.1 c.loop-e-test.true) in
    record { good = c.requires.indexed.packs.good _ member; lent = c.loop-e.invariant.0 }

pub returns-in_err-tail : goal.returns-in_err-tail
returns-in_err-tail c =
    rw (err_from_is_err_and c.from_residual.result c.from_residual.ensures.1).1
    (visit_clash _ _ _ c.loop-e.invariant.1 c.loop-e-test.true c.in_err-tail.ensures)

-- the next entry is the highest below
pub loop-e-smaller : goal.loop-e-smaller
loop-e-smaller c =
    let held = entry_held _ _ _ c.loop-e.invariant.1 c.loop-e-test.true in
    top_below (omega arith) (c.requires.indexed.links.links c.args.b c.loop-e.e held.0 held.1)

pub loop-e-preserved : goal.loop-e-preserved
loop-e-preserved c =
    let held = entry_held _ _ _ c.loop-e.invariant.1 c.loop-e-test.true in
    let next = c.requires.indexed.links.links c.args.b c.loop-e.e held.0 held.1 in
    let so_far = visit_step _ _ _ c.loop-e.invariant.1 c.loop-e-test.true c.in_ok-tail.ensures _ next in
    (lent_ran c.requires.lent so_far.ran, so_far)

pub returns : goal.returns
returns c = visit_end _ _ _ c.loop-e.invariant.1 (omega arith)
