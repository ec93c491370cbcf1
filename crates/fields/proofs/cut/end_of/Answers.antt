-- `fields::cut::end_of` meets its contract: the library counts the characters before the same mark.
-- Assumes nothing.
use mathlib.Core.Path.{ap, ◌∙◌}
use mathlib.Core.Bool.{not}
use native.Mathlib.Omega.{arith}
use borrow.Author.Rules.{rules}
use borrow.Author.Tests.{tests}
use lib.Dec.{eqb}
use lib.ListN.{drop}
use Rattle.std.specs.Slice.Iter.{iter_rest}
use Rattle.std.proofs.lemmas.Iterator.{YieldsList-from_slice}
use Rattle.std.proofs.lemmas.Iterator.Consumers.{count_from_yields_List}
use Rattle.std.proofs.lemmas.Iterator.Search.{YieldsList-from_take_while}
use Rattle.fields.proofs.Scanning.{until_taken, rest_from}
use Rattle.fields.proofs.cut.end_of.Goals as goal

pub returns : goal.returns
returns c =
    let rest = drop c.args.from c.args.s.now in
    let counted =
    count_from_yields_List c.take_while.result c.count.result c.count.ensures.ran
    (YieldsList-from_take_while _ (λ x. not (eqb x c.args.mark))
    (YieldsList-from_slice rest (ap iter_rest c.take_while.ensures.source ∙ c.iter.ensures.rest ∙ rest_from c.args.s.now c.args.from))
    c.take_while.ensures.closure c.take_while.ensures.done (λ x b q k. search (rules, tests))) in
    omega (arith, counted, until_taken c.args.mark rest)
