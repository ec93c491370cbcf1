-- `index::link_rule` meets its contract: the kind is passed over, and so is a z that is missing.
-- Assumes nothing.
use mathlib.Core.Path.{sym, ◌∙◌}
use Prim.Native.Nat.{◌+◌, ◌*◌}
use native.Mathlib.Omega.{arith}
use borrow.Author.Tests.{not-false}
use Rattle.lemmas.proofs.Tests.{T_true}
use Rattle.spec.specs.Kinds.{X, Y, Z}
use Rattle.index.proofs.Linking.{kind_held, z_held, rule_held, linked_past, linked_to}
use Rattle.index.proofs.link_rule.Goals as goal

pub link_entry-requires : goal.link_entry-requires
link_entry-requires c =
    let start = c in
    record { e_bound = omega (arith, start.requires.j_bound); linked = linked_past (λ b. kind_held start.args.j) start.requires.linked; held = rule_held start.args.j X start.requires.j_value tt }

pub link_entry-requires-2 : goal.link_entry-requires-2
link_entry-requires-2 c =
    let start = c in record { e_bound = omega (arith, start.requires.j_bound); linked = linked_to c.link_entry.ensures (omega arith); held = rule_held start.args.j Y start.requires.j_value tt }

pub link_entry-requires-then-has_z : goal.link_entry-requires-then-has_z
link_entry-requires-then-has_z c =
    let asked = c in
    let start = (asked) in record { e_bound = omega (arith, start.requires.j_bound); linked = linked_to (asked).link_entry-2.ensures (omega arith); held = rule_held start.args.j Z start.requires.j_value (T_true (sym asked.has_z.ensures ∙ c.if-has_z.true)) }

pub returns-then-has_z : goal.returns-then-has_z
returns-then-has_z c = linked_to c.link_entry-then-has_z.ensures (omega arith)

pub returns-else-has_z : goal.returns-else-has_z
returns-else-has_z c =
    let asked = c in
    let j = (asked).args.j in
    linked_to
    (linked_past {bound = 4 * j + 3} (λ b. z_held j (not-false _ (sym asked.has_z.ensures ∙ c.if-has_z.false)))
    (linked_to (asked).link_entry-2.ensures (omega arith)))
    (omega arith)
