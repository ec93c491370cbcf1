-- `index::pack` meets its contract: what is packed are the rules among the records so far.
-- Assumes nothing.
use mathlib.Core.Path.{refl, sym, ap, ◌∙◌}
use native.Mathlib.Omega.{arith}
use borrow.Author.Rules.{rules}
use Rattle.spec.specs.Records.{is_rule}
use Rattle.spec.proofs.Accepted.{accepted_all}
use Rattle.index.specs.Index.{packed_rules}
use Rattle.index.proofs.Packing.{rules_kept, rules_passed, packed_all}
use Rattle.index.proofs.pack.Goals.{then-is_rule, else-is_rule}
use Rattle.index.proofs.pack.Goals as goal

pub loop-i-init : goal.loop-i-init
unfolding packed_rules
loop-i-init c = (search rules, c.requires, refl)

pub pack_rule-requires : goal.pack_rule-requires
pack_rule-requires c =
    let accepted = accepted_all c.args.t.accepted in
    record {
      m_bound = omega (arith, accepted.count);
      packed_len = c.loop-i.invariant.1;
      q_value = rw c.record-q.ensures (accepted.good _ (search rules));
    }

pub loop-i-preserved : goal.loop-i-preserved
loop-i-preserved c =
    let maker = c.args.t.maker.now in
    let depot = c.args.t.depot.now in
    let read = c.record-q.ensures in
    let told = ap is_rule (sym read) ∙ sym c.is_rule.ensures in (
      elim c.if-is_rule.branch [ then-is_rule w ↦ omega (arith, w.m-is) | else-is_rule w ↦ omega (arith, w.m-is) ],
      elim c.if-is_rule.branch [
        | then-is_rule w ↦ rw w.packed-is w.pack_rule.ensures.packed_len_2
        | else-is_rule w ↦ rw w.packed-is c.loop-i.invariant.1
      ],
      elim c.if-is_rule.branch [
        | then-is_rule w ↦ cc (w.packed-is, w.m-is, w.pack_rule.ensures.m_after, c.loop-i.invariant.2, read, rules_kept maker depot c.loop-i.i (told ∙ w.if-is_rule.true))
        | else-is_rule w ↦ cc (w.packed-is, w.m-is, c.loop-i.invariant.2, rules_passed maker depot c.loop-i.i (told ∙ w.if-is_rule.false))
      ],
    )

pub returns : goal.returns
returns c =
    packed_all (accepted_all c.args.t.accepted) c.loop-i.invariant.1 c.loop-i.invariant.0 (omega arith) c.loop-i.invariant.2
