-- `fields::field::are_fields` meets its contract: the library cuts at the spaces, and tests each piece.
-- Assumes nothing.
use mathlib.Core.Path.{◌∙◌, ap}
use borrow.Author.Rules.{rules}
use borrow.Author.Tests.{tests}
use lib.Dec.{eqb}
use lib.ListN.{drop}
use Rattle.std.proofs.lemmas.Iterator.Search.{all_from_yields_List}
use Rattle.std.proofs.lemmas.Iterator.Splits.{YieldsList-from_slice_split}
use Rattle.lemmas.specs.Lists.{all}
use Rattle.fields.specs.Fields.{is_field}
use Rattle.fields.proofs.Scanning.{cut_split, rest_from, all_list}
use Rattle.fields.proofs.field.are_fields.Goals as goal

pub returns : goal.returns
returns c =
    let line = c.args.line.now in
    let rest = drop c.args.from line in
    all_from_yields_List is_field _ _ c.all.result c.all.ensures.ran
    (YieldsList-from_slice_split _ (λ x. eqb x 32) rest (c.split.ensures.rest ∙ rest_from line c.args.from)
    c.split.ensures.done c.split.ensures.closure (λ x b q k. search (rules, tests)))
    (λ x b q k. search (rules, tests))
    ∙ all_list is_field _ ∙ ap (all is_field) (cut_split 32 rest)
