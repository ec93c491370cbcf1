-- `fields::parts::take_parts` meets its contract. The loop's invariant: the parts of the fields passed stand at the front.
-- Assumes nothing.
use mathlib.Core.Path.{◌≡◌, refl, ◌∙◌}
use native.Mathlib.Omega.{arith}
use borrow.Author.Rules.{rules}
use borrow.Author.Tests.{tests}
use Rattle.std.proofs.lemmas.Fn.{always_returns_same}
use Rattle.fields.proofs.Scanning.{left_none, left_some, left_start, space, rest_from}
use Rattle.fields.proofs.Taking.{taking_start, taking_field, taking_room, taking_none, taking_next, all_taken}
use Rattle.fields.proofs.parts.take_parts.Goals.{in-Some, in_default}
use Rattle.fields.proofs.parts.take_parts.Goals as goal

pub loop-k-init : goal.loop-k-init
loop-k-init c =
    let cut = c.split-fields.ensures in
    rw (left_start c.split-fields.result _ (cut.rest ∙ rest_from c.args.line.now c.args.from) cut.done)
    (taking_start c.requires.right_fields _ _ refl refl)

pub decode-at-requires : goal.decode-at-requires
decode-at-requires c =
    let step = c.in-Some.ensures.steps in
    let first = (step.2 space (always_returns_same _ (λ a r. r ≡ space a.0.now) _ (λ a r q k. search (rules, tests)))).1 in
    let some = left_some c.loop-k.fields c.next.new.self c.in-Some.field.now step.0 step.1 first in
    record {
      field_value = taking_field c.loop-k.invariant c.requires.line_len_bound _ _ some;
      field_bound = omega (arith, taking_room c.loop-k.invariant c.requires.line_len_bound _ _ some);
    }

pub loop-k-preserved : goal.loop-k-preserved
loop-k-preserved c =
    let so = c.loop-k.invariant in
    let room = c.requires.line_len_bound in
    let more = c.loop-k-test.true in
    elim c.match-next.branch [
      | in-Some w ↦ let step = w.in-Some.ensures.steps in
          let first = (step.2 space (always_returns_same _ (λ a r. r ≡ space a.0.now) _ (λ a r q k. search (rules, tests)))).1 in
          let some = left_some c.loop-k.fields c.next.new.self w.in-Some.field.now step.0 step.1 first in
          rw (w.bytes-is, w.at-is) (taking_next so room _ _ some more w.decode-at.ensures)
      | in_default w ↦ let step = w.in_default.ensures.steps in
          rw (w.bytes-is, w.at-is, step.1) (taking_none so room more (left_none c.loop-k.fields step.0))
    ]

pub returns : goal.returns
returns c = all_taken c.requires.right_fields c.loop-k.invariant c.requires.line_len_bound c.loop-k-test.false
