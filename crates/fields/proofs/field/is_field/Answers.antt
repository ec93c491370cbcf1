-- `fields::field::is_field` meets its contract: the length is looked at first, and then each character.
-- Assumes nothing.
use mathlib.Core.Path.{sym, ◌∙◌}
use native.Mathlib.Omega.{arith}
use borrow.Author.Rules.{rules}
use borrow.Author.Tests.{tests, eq-eqb, ne_eqb}
use Rattle.std.proofs.lemmas.Iterator.{YieldsList-from_slice}
use Rattle.std.proofs.lemmas.Iterator.Search.{all_from_yields_List}
use Rattle.fields.specs.Fields.{is_digit}
use Rattle.fields.proofs.Digits.{digit_some}
use Rattle.fields.proofs.Decoding.{field_none, field_single, field_pairs}
use Rattle.fields.proofs.Scanning.{all_list}
use Rattle.fields.proofs.field.is_field.Goals as goal

pub returns-in-empty : goal.returns-in-empty
returns-in-empty c = sym (field_none c.args.field.now (omega arith))

pub returns-in-len1 : goal.returns-in-len1
returns-in-len1 c = sym (field_single c.args.field.now (omega arith))

pub returns-then-field-eq0 : goal.returns-then-field-eq0
returns-then-field-eq0 c =
    let f = c.args.field.now in
    all_from_yields_List is_digit _ _ c.all.result c.all.ensures.ran (YieldsList-from_slice f c.iter.ensures.rest)
    (λ x b q k. search (rules, tests, digit_some))
    ∙ all_list is_digit f
    ∙ sym (field_pairs f c.in_default.len_at_least ∙ rw (eq-eqb _ _ c.if-field-eq0.true))

pub returns-else-field-eq0 : goal.returns-else-field-eq0
returns-else-field-eq0 c =
    sym (field_pairs c.args.field.now c.in_default.len_at_least ∙ rw (ne_eqb _ _ c.if-field-eq0.false))
