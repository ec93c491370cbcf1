-- `broken::first_broken` meets its contract: where it returns within the loop, the record is the lowest broken one.
-- Assumes nothing.
use Rattle.std.proofs.Common.{◌≡◌, true, arith}
use Rattle.lemmas.proofs.Lowest.{if_found, if_none}
use Rattle.spec.specs.Records.{record_at}
use Rattle.spec.specs.Fits.{is_broken, first_broken}
use Rattle.broken.proofs.first_broken.Goals as goal

pub returns-then-is_broken : goal.returns-then-is_broken
unfolding first_broken
returns-then-is_broken c =
    let tested : is_broken c.args.list.now (record_at c.args.maker.now c.args.depot.now c.loop-i.i) ≡ true = cc in
    if_found _ _ _ (omega arith) tested c.loop-i.invariant

pub returns : goal.returns
unfolding first_broken
returns c = if_none _ _ (λ j l. c.loop-i.invariant j (omega arith))
