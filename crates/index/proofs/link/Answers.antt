-- `index::link` meets its contract: rule by rule, the entries of all rules are linked.
-- Assumes nothing.
use native.Mathlib.Omega.{arith}
use Rattle.index.proofs.Linking.{held_member, linked_to}
use Rattle.index.proofs.link.Goals as goal

pub link_rule-requires : goal.link_rule-requires
link_rule-requires c =
    let pre = c.requires in
    record {
      j_bound = omega arith;
      j_value = pre.good _ (held_member c.args.packed.now (omega arith));
      linked = c.loop-j.invariant;
    }

pub returns : goal.returns
returns c = linked_to c.loop-j.invariant (omega arith)
