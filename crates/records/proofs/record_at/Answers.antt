-- `records::record_at` meets its contract: the record lies whole in the table that it is read from.
-- Assumes nothing.
use mathlib.Core.Path.{sym, ◌∙◌}
use native.Mathlib.Omega.{arith}
use Rattle.records.proofs.Tables.{record_below, lies}
use Rattle.records.proofs.record_at.Goals as goal

pub place_of-requires : goal.place_of-requires
place_of-requires c = omega (arith, record_below _ _ c.requires.whole_records _ c.requires.number_bound)

pub record_from-requires : goal.record_from-requires
record_from-requires c = (lies c.requires.whole_records c.requires.number_bound c.in-Maker.ensures).within

pub record_from-requires-in-Depot : goal.record_from-requires-in-Depot
record_from-requires-in-Depot c = (lies c.requires.whole_records c.requires.number_bound c.in-Depot.ensures).within

pub returns-in-Maker : goal.returns-in-Maker
returns-in-Maker c = c.record_from.ensures ∙ sym (lies c.requires.whole_records c.requires.number_bound c.in-Maker.ensures).read

pub returns-in-Depot : goal.returns-in-Depot
returns-in-Depot c =
    c.record_from-in-Depot.ensures ∙ sym (lies c.requires.whole_records c.requires.number_bound c.in-Depot.ensures).read
