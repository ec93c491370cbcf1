-- `fields::word::place_among` meets its contract: the library cuts at the spaces, and finds the same word.
-- Assumes nothing.
use mathlib.Core.Path.{◌∙◌, sym, ap}
use borrow.Author.Rules.{rules}
use borrow.Author.Tests.{tests}
use lib.Dec.{eqb}
use Rattle.std.specs.Cmp.Lexicographic.{pointwise}
use Rattle.std.proofs.lemmas.Iterator.Search.{position_from_yields_List}
use Rattle.std.proofs.lemmas.Iterator.Splits.{YieldsList-from_slice_split}
use Rattle.fields.specs.Words.{found_among}
use Rattle.fields.proofs.Scanning.{cut_split}
use Rattle.fields.proofs.Looking.{found_position}
use Rattle.fields.proofs.word.place_among.Goals as goal

pub returns : goal.returns
returns c =
    let word = c.args.word.now in
    let words = c.args.words.now in
    position_from_yields_List (pointwise eqb word) _ _ c.position.result c.position.ensures.ran
    (YieldsList-from_slice_split _ (λ x. eqb x 32) words c.split.ensures.rest
    c.split.ensures.done c.split.ensures.closure (λ x b q k. search (rules, tests)))
    (λ x b q k. search (rules, tests))
    ∙ sym (found_position word _) ∙ ap (found_among word) (cut_split 32 words)
